-- Statements and machines that were placed are named.
use Rattle.std.proofs.Common.{◌≡◌, ℕ, Bool, true, false, ◌+◌, ◌&&◌, nat_lt, List, [], ◌∷◌, map, Option, Some, None, Ok, Err, refl, ap, sym, ◌∙◌, subst}
use Rattle.std.specs.Prelude.{nat_le, unwrap_or, if◌then◌else◌}
use Rattle.nys_lex.specs.declared.fault.MachineKind.TheVariants as kind
use Rattle.nys_tree.specs.declared.name.Name.{Name}
use Rattle.nys_tree.specs.declared.expr.Expr.{Expr}
use Rattle.nys_tree.specs.declared.stmt.Target.{Target}
use Rattle.nys_tree.specs.declared.stmt.Target.TheVariants.{All, Host}
use Rattle.nys_tree.specs.declared.stmt.Values.{Values}
use Rattle.nys_tree.specs.declared.stmt.Else.{Else, map-Else, roll-Else}
use Rattle.nys_tree.specs.declared.stmt.Stmt.{Stmt, map-Stmt, roll-Stmt}
use Rattle.nys_tree.specs.declared.stmt.Block.{Block, map-Block, roll-Block, out-roll-Block, ind-Block}
use Rattle.nys_tree.specs.declared.stmt.Branch.{Branch, map-Branch, roll-Branch, out-roll-Branch}
use Rattle.nys_tree.specs.declared.stmt.Stmt.TheVariants as sv
use Rattle.nys_tree.specs.declared.stmt.Else.TheVariants as ev
use Rattle.nys_tree.specs.declared.stmt.Else.TheOpen.{Else-F, Stmt-F, Block-F, Branch-F}
use Rattle.nys_tree.specs.declared.machine.Machine.{Machine}
use Rattle.nys_tree.specs.declared.machine.Var.{Var}
use Rattle.nys_tree.specs.declared.machine.OnInput.{OnInput}
use Rattle.nys_tree.specs.declared.machine.OnReceive.{OnReceive}
use Rattle.nys_tree.specs.Bindings.{Declared, Bindings, top, is_new, let_of, fixed_of, payload_of}
use Rattle.nys_tree.specs.Named.{expr_named, target_named, exprs_named, same_if, more_if, then_named, stmts_named, stmt_named, block_named, branch_named, other_named, MAX_STATE, size_of, var_of, var_named_by, pass_on, vars_named, input_named, receive_named, is_named}
use Rattle.nys_tree.proofs.NamedEquations as ne
use Rattle.nys_names.specs.Names.{Outcome, go_on, fault_at, set_scalar, set_list, new_name}
use Rattle.nys_names.specs.Exprs.{expr}
use Rattle.nys_names.specs.Stmts.{target, exprs, values, behind, stmts_placed, other, stmt, block, branch, numbers, sized, var, vars, on_input, on_receive, check}
use Rattle.nys_names.proofs.StmtEquations as eq
use Rattle.nys_names.proofs.NameLemmas.{go_on_ok, ok_is, both_true, set_scalar_ok, set_list_ok, new_ok}
use Rattle.nys_names.proofs.ExprsNamed.{Each, Known, each_known, expr_ok}

-- the members of a list that was placed are named
exprs_ok : (es : List Expr) (s : Bindings) (ys : List Expr) → exprs es s ≡ Ok ys → exprs_named ys s ≡ true
exprs_ok [] s ys e = subst (λ zs. exprs_named zs s ≡ true) (ok_is [] ys (Ok []) refl e) refl
exprs_ok (x ∷ xs) s ys e =
    let one = go_on_ok (expr x s) (λ y. go_on (exprs xs s) (λ zs. Ok (y ∷ zs))) ys e in
    let two = go_on_ok (exprs xs s) (λ zs. Ok (one.0 ∷ zs)) ys one.2 in
    subst (λ zs. exprs_named zs s ≡ true) (ok_is (one.0 ∷ two.0) ys (Ok (one.0 ∷ two.0)) refl two.2)
    (both_true _ _ (expr_ok x s one.0 one.1) (exprs_ok xs s two.0 two.1))

-- the list of a `send` or an `out` that was placed is named
values_ok : (l : Values) (s : Bindings) (y : Values) → values l s ≡ Ok y → exprs_named y.members s ≡ true
values_ok l s y e =
    let one = go_on_ok (exprs l.members s) (λ xs. Ok (record { members = xs })) y e in
    let z : Values = record { members = one.0 } in
    subst (λ (v : Values). exprs_named v.members s ≡ true) (ok_is z y (Ok z) refl one.2) (exprs_ok l.members s one.0 one.1)

-- to whom a `send` goes is named where it was placed
target_ok : (t : Target) (s : Bindings) (y : Target) → target t s ≡ Ok y → target_named y s ≡ true
target_ok All s y e = subst (λ z. target_named z s ≡ true) (ok_is All y (Ok All) refl e) refl
target_ok (Host x) s y e =
    let one = go_on_ok (expr x s) (λ z. Ok (Host z)) y e in
    subst (λ z. target_named z s ≡ true) (ok_is (Host one.0) y (Ok (Host one.0)) refl one.2) (expr_ok x s one.0 one.1)

-- whatever stands behind an `if`'s block becomes something named
abbrev NamedElse : Else → Type 0
NamedElse t = (s : Bindings) (u : Else) → other t s ≡ Ok u → other_named u s ≡ true

-- what the statement becomes is named, and what is seen behind it is what it declares
abbrev NamedStmt : Stmt → Type 0
NamedStmt t = (s : Bindings) (u : Stmt × Option Declared) → stmt t s ≡ Ok u → stmt_named u.0 s ≡ Some (behind u.1 s)

-- whatever the block becomes is named
abbrev NamedBlock : Block → Type 0
NamedBlock t = (s : Bindings) (u : Block) → block t s ≡ Ok u → block_named u s ≡ true

-- whatever the `if` becomes is named
abbrev NamedBranch : Branch → Type 0
NamedBranch t = (s : Bindings) (u : Branch) → branch t s ≡ Ok u → branch_named u s ≡ true

-- statements that were placed one after the other are named, where each by itself is
stmts_ok : (xs : List Stmt) → Each NamedStmt xs → (s : Bindings) (ys : List Stmt) → stmts_placed (map stmt xs) s ≡ Ok ys → stmts_named (map stmt_named ys) s ≡ true
stmts_ok [] k s ys e = subst (λ zs. stmts_named (map stmt_named zs) s ≡ true) (ok_is [] ys (Ok []) refl e) refl
stmts_ok (x ∷ xs) k s ys e =
    let one = go_on_ok (stmt x s) (λ p. go_on (stmts_placed (map stmt xs) (behind p.1 s)) (λ zs. Ok (p.0 ∷ zs))) ys e in
    let two = go_on_ok (stmts_placed (map stmt xs) (behind one.0.1 s)) (λ zs. Ok (one.0.0 ∷ zs)) ys one.2 in
    subst (λ zs. stmts_named (map stmt_named zs) s ≡ true) (ok_is (one.0.0 ∷ two.0) ys (Ok (one.0.0 ∷ two.0)) refl two.2)
    (ap (λ o. then_named o (stmts_named (map stmt_named two.0))) (k.0 s one.0 one.1) ∙ stmts_ok xs k.1 (behind one.0.1 s) two.0 two.1)

-- a statement that was placed, by the whole of it
stmt_from : (s : Bindings) (x : Stmt) (d : Option Declared) (u : Stmt × Option Declared) (o : Outcome (Stmt × Option Declared)) → o ≡ Ok (x, d) → o ≡ Ok u
    → stmt_named x s ≡ Some (behind d s) → stmt_named u.0 s ≡ Some (behind u.1 s)
stmt_from s x d u o is e k =
    let w : Stmt × Option Declared = (x, d) in
    subst (λ (v : Stmt × Option Declared). stmt_named v.0 s ≡ Some (behind v.1 s)) (ok_is w u o is e) k

-- a `let` is named: its name is new, and its value doesn't see it
stmt_let : (name : Name) (e : Expr) → NamedStmt (sv.Let name e)
stmt_let name e = λ s u ok.
    let one = go_on_ok (new_name 1 name s) (λ n. go_on (expr e s) (λ x. Ok (sv.Let n x, Some (let_of n)))) u (sym (eq.stmt_let name e s) ∙ ok) in
    let two = go_on_ok (expr e s) (λ x. Ok (sv.Let one.0 x, Some (let_of one.0))) u one.2 in
    stmt_from s (sv.Let one.0 two.0) (Some (let_of one.0)) u (Ok (sv.Let one.0 two.0, (Some (let_of one.0)))) refl two.2 (ne.stmt_let one.0 two.0 s ∙ ap (λ b. more_if b (let_of one.0) s) (both_true _ _ (new_ok 1 name s one.0 one.1) (expr_ok e s two.0 two.1)))

-- an assignment is named: its name is a scalar that may be assigned
stmt_set : (name : Name) (e : Expr) → NamedStmt (sv.Set name e)
stmt_set name e = λ s u ok.
    let one = go_on_ok (set_scalar name s) (λ n. go_on (expr e s) (λ x. Ok (sv.Set n x, None))) u (sym (eq.stmt_set name e s) ∙ ok) in
    let two = go_on_ok (expr e s) (λ x. Ok (sv.Set one.0 x, None)) u one.2 in
    stmt_from s (sv.Set one.0 two.0) None u (Ok (sv.Set one.0 two.0, None)) refl two.2 (let found = set_scalar_ok name s one.0 one.1 in ne.stmt_set one.0 two.0 s ∙ ap (λ b. same_if b s) (both_true _ _ found.0 (both_true _ _ found.1 (expr_ok e s two.0 two.1))))

-- an assignment to an item is named: its name is a list that may be assigned
stmt_set_item : (name : Name) (i : Expr) (e : Expr) → NamedStmt (sv.SetItem name i e)
stmt_set_item name i e = λ s u ok.
    let one = go_on_ok (set_list name s) (λ n. go_on (expr i s) (λ x. go_on (expr e s) (λ y. Ok (sv.SetItem n x y, None)))) u (sym (eq.stmt_set_item name i e s) ∙ ok) in
    let two = go_on_ok (expr i s) (λ x. go_on (expr e s) (λ y. Ok (sv.SetItem one.0 x y, None))) u one.2 in
    let three = go_on_ok (expr e s) (λ y. Ok (sv.SetItem one.0 two.0 y, None)) u two.2 in
    stmt_from s (sv.SetItem one.0 two.0 three.0) None u (Ok (sv.SetItem one.0 two.0 three.0, None)) refl three.2 (let found = set_list_ok name s one.0 one.1 in ne.stmt_set_item one.0 two.0 three.0 s ∙ ap (λ b. same_if b s) (both_true _ _ found.0 (both_true _ _ found.1 (both_true _ _ (expr_ok i s two.0 two.1) (expr_ok e s three.0 three.1)))))

-- an `if` is named as a statement
stmt_if : (b : Branch) → NamedBranch b → NamedStmt (sv.If b)
stmt_if b k = λ s u ok.
    let one = go_on_ok (branch b s) (λ x. Ok (sv.If x, None)) u (sym (eq.stmt_if b s) ∙ ok) in
    stmt_from s (sv.If one.0) None u (Ok (sv.If one.0, None)) refl one.2 (ne.stmt_if one.0 s ∙ ap (λ b. same_if b s) (k s one.0 one.1))

-- a `for` is named: its name is new, its bounds don't see it, and its block does
stmt_for : (name : Name) (a : Expr) (b : Expr) (body : Block) → NamedBlock body → NamedStmt (sv.For name a b body)
stmt_for name a b body k = λ s u ok.
    let one = go_on_ok (new_name 1 name s) (λ n. go_on (expr a s) (λ x. go_on (expr b s) (λ y. go_on (block body (fixed_of n ∷ s)) (λ z. Ok (sv.For n x y z, None))))) u (sym (eq.stmt_for name a b body s) ∙ ok) in
    let two = go_on_ok (expr a s) (λ x. go_on (expr b s) (λ y. go_on (block body (fixed_of one.0 ∷ s)) (λ z. Ok (sv.For one.0 x y z, None)))) u one.2 in
    let three = go_on_ok (expr b s) (λ y. go_on (block body (fixed_of one.0 ∷ s)) (λ z. Ok (sv.For one.0 two.0 y z, None))) u two.2 in
    let four = go_on_ok (block body (fixed_of one.0 ∷ s)) (λ z. Ok (sv.For one.0 two.0 three.0 z, None)) u three.2 in
    stmt_from s (sv.For one.0 two.0 three.0 four.0) None u (Ok (sv.For one.0 two.0 three.0 four.0, None)) refl four.2 (ne.stmt_for one.0 two.0 three.0 four.0 s ∙ ap (λ b. same_if b s) (both_true _ _ (new_ok 1 name s one.0 one.1) (both_true _ _ (expr_ok a s two.0 two.1) (both_true _ _ (expr_ok b s three.0 three.1) (k (fixed_of one.0 ∷ s) four.0 four.1)))))

-- an `each` is named: its name is new, and its block sees it
stmt_each : (name : Name) (body : Block) → NamedBlock body → NamedStmt (sv.Each name body)
stmt_each name body k = λ s u ok.
    let one = go_on_ok (new_name 1 name s) (λ n. go_on (block body (fixed_of n ∷ s)) (λ z. Ok (sv.Each n z, None))) u (sym (eq.stmt_each name body s) ∙ ok) in
    let two = go_on_ok (block body (fixed_of one.0 ∷ s)) (λ z. Ok (sv.Each one.0 z, None)) u one.2 in
    stmt_from s (sv.Each one.0 two.0) None u (Ok (sv.Each one.0 two.0, None)) refl two.2 (ne.stmt_each one.0 two.0 s ∙ ap (λ b. same_if b s) (both_true _ _ (new_ok 1 name s one.0 one.1) (k (fixed_of one.0 ∷ s) two.0 two.1)))

-- a `send` is named
stmt_send : (to : Target) (list : Values) → NamedStmt (sv.Send to list)
stmt_send to list = λ s u ok.
    let one = go_on_ok (target to s) (λ x. go_on (values list s) (λ y. Ok (sv.Send x y, None))) u (sym (eq.stmt_send to list s) ∙ ok) in
    let two = go_on_ok (values list s) (λ y. Ok (sv.Send one.0 y, None)) u one.2 in
    stmt_from s (sv.Send one.0 two.0) None u (Ok (sv.Send one.0 two.0, None)) refl two.2 (ne.stmt_send one.0 two.0 s ∙ ap (λ b. same_if b s) (both_true _ _ (target_ok to s one.0 one.1) (values_ok list s two.0 two.1)))

-- an `out` is named
stmt_out : (list : Values) → NamedStmt (sv.Out list)
stmt_out list = λ s u ok.
    let one = go_on_ok (values list s) (λ y. Ok (sv.Out y, None)) u (sym (eq.stmt_out list s) ∙ ok) in
    stmt_from s (sv.Out one.0) None u (Ok (sv.Out one.0, None)) refl one.2 (ne.stmt_out one.0 s ∙ ap (λ b. same_if b s) (values_ok list s one.0 one.1))

-- without an `else` there is no name to test
other_absent : NamedElse ev.Absent
other_absent = λ s u ok. subst (λ z. other_named z s ≡ true) (ok_is ev.Absent u _ (eq.other_absent s) ok) (ne.other_absent s)

-- an `else` is named where its block is
other_last : (b : Block) → NamedBlock b → NamedElse (ev.Last b)
other_last b k = λ s u ok.
    let one = go_on_ok (block b s) (λ x. Ok (ev.Last x)) u (sym (eq.other_last b s) ∙ ok) in
    subst (λ z. other_named z s ≡ true) (ok_is (ev.Last one.0) u (Ok (ev.Last one.0)) refl one.2) (ne.other_last one.0 s ∙ k s one.0 one.1)

-- an `else if` is named where its `if` is
other_further : (b : Branch) → NamedBranch b → NamedElse (ev.Further b)
other_further b k = λ s u ok.
    let one = go_on_ok (branch b s) (λ x. Ok (ev.Further x)) u (sym (eq.other_further b s) ∙ ok) in
    subst (λ z. other_named z s ≡ true) (ok_is (ev.Further one.0) u (Ok (ev.Further one.0)) refl one.2) (ne.other_further one.0 s ∙ k s one.0 one.1)

-- the equation of a block, at the block of given statements
block_at : (x : Block-F Else Stmt Block Branch) (s : Bindings) → block (roll-Block x) s ≡ go_on (stmts_placed (map stmt x.stmts) s) (λ xs. Ok (roll-Block (record { stmts = xs })))
block_at x s = eq.block_is (roll-Block x) s ∙ ap (λ (y : Block-F Else Stmt Block Branch). go_on (stmts_placed (map stmt y.stmts) s) (λ xs. Ok (roll-Block (record { stmts = xs })))) (out-roll-Block x)

-- a block is named where its statements are
block_case : (x : Block-F Else Stmt Block Branch) → Each NamedStmt x.stmts → NamedBlock (roll-Block x)
block_case x k = λ s u ok.
    let one = go_on_ok (stmts_placed (map stmt x.stmts) s) (λ xs. Ok (roll-Block (record { stmts = xs }))) u (sym (block_at x s) ∙ ok) in
    let y : Block-F Else Stmt Block Branch = record { stmts = one.0 } in
    subst (λ z. block_named z s ≡ true) (ok_is (roll-Block y) u (Ok (roll-Block y)) refl one.2)
    (ne.block_is (roll-Block y) s ∙ (ap (λ (z : Block-F Else Stmt Block Branch). stmts_named (map stmt_named z.stmts) s) (out-roll-Block y) ∙ stmts_ok x.stmts k s one.0 one.1))

-- the equation of an `if`, at the `if` of given parts
branch_at : (x : Branch-F Else Stmt Block Branch) (s : Bindings) → branch (roll-Branch x) s ≡ go_on (expr x.test s) (λ a. go_on (block x.body s) (λ b. go_on (other x.other s) (λ c. Ok (roll-Branch (record { test = a; body = b; other = c })))))
branch_at x s = eq.branch_is (roll-Branch x) s ∙ ap (λ (y : Branch-F Else Stmt Block Branch). go_on (expr y.test s) (λ a. go_on (block y.body s) (λ b. go_on (other y.other s) (λ c. Ok (roll-Branch (record { test = a; body = b; other = c })))))) (out-roll-Branch x)

-- an `if` is named where its test, its block and what stands behind are
branch_case : (x : Branch-F Else Stmt Block Branch) → NamedBlock x.body → NamedElse x.other → NamedBranch (roll-Branch x)
branch_case x body rest = λ s u ok.
    let one = go_on_ok (expr x.test s) (λ a. go_on (block x.body s) (λ b. go_on (other x.other s) (λ c. Ok (roll-Branch (record { test = a; body = b; other = c }))))) u (sym (branch_at x s) ∙ ok) in
    let two = go_on_ok (block x.body s) (λ b. go_on (other x.other s) (λ c. Ok (roll-Branch (record { test = one.0; body = b; other = c })))) u one.2 in
    let three = go_on_ok (other x.other s) (λ c. Ok (roll-Branch (record { test = one.0; body = two.0; other = c }))) u two.2 in
    let y : Branch-F Else Stmt Block Branch = record { test = one.0; body = two.0; other = three.0 } in
    subst (λ z. branch_named z s ≡ true) (ok_is (roll-Branch y) u (Ok (roll-Branch y)) refl three.2)
    (ne.branch_is (roll-Branch y) s ∙ (ap (λ (z : Branch-F Else Stmt Block Branch). expr_named z.test s && (block_named z.body s && other_named z.other s)) (out-roll-Branch y)
    ∙ both_true _ _ (expr_ok x.test s one.0 one.1) (both_true _ _ (body s two.0 two.1) (rest s three.0 three.1))))

-- each form of what stands behind an `if`'s block is named where its parts are
else_layer : (y : Else-F (Known NamedElse) (Known NamedStmt) (Known NamedBlock) (Known NamedBranch)) → NamedElse (roll-Else (map-Else (Known NamedElse) (Known NamedStmt) (Known NamedBlock) (Known NamedBranch) Else Stmt Block Branch (λ q. q.0) (λ q. q.0) (λ q. q.0) (λ q. q.0) y))
else_layer Else-F.Absent = subst NamedElse (sym ev.rolls-Absent) other_absent
else_layer (Else-F.Last x) = subst NamedElse (sym (ev.rolls-Last x.0)) (other_last x.0 x.1)
else_layer (Else-F.Further x) = subst NamedElse (sym (ev.rolls-Further x.0)) (other_further x.0 x.1)

-- each form of statement is named where its blocks are
stmt_layer : (y : Stmt-F (Known NamedElse) (Known NamedStmt) (Known NamedBlock) (Known NamedBranch)) → NamedStmt (roll-Stmt (map-Stmt (Known NamedElse) (Known NamedStmt) (Known NamedBlock) (Known NamedBranch) Else Stmt Block Branch (λ q. q.0) (λ q. q.0) (λ q. q.0) (λ q. q.0) y))
stmt_layer (Stmt-F.Let name e) = subst NamedStmt (sym (sv.rolls-Let name e)) (stmt_let name e)
stmt_layer (Stmt-F.Set name e) = subst NamedStmt (sym (sv.rolls-Set name e)) (stmt_set name e)
stmt_layer (Stmt-F.SetItem name i e) = subst NamedStmt (sym (sv.rolls-SetItem name i e)) (stmt_set_item name i e)
stmt_layer (Stmt-F.If x) = subst NamedStmt (sym (sv.rolls-If x.0)) (stmt_if x.0 x.1)
stmt_layer (Stmt-F.For name a b x) = subst NamedStmt (sym (sv.rolls-For name a b x.0)) (stmt_for name a b x.0 x.1)
stmt_layer (Stmt-F.Each name x) = subst NamedStmt (sym (sv.rolls-Each name x.0)) (stmt_each name x.0 x.1)
stmt_layer (Stmt-F.Send to list) = subst NamedStmt (sym (sv.rolls-Send to list)) (stmt_send to list)
stmt_layer (Stmt-F.Out list) = subst NamedStmt (sym (sv.rolls-Out list)) (stmt_out list)

-- statements that are known to be named make a block that is
block_layer : (y : Block-F (Known NamedElse) (Known NamedStmt) (Known NamedBlock) (Known NamedBranch)) → NamedBlock (roll-Block (map-Block (Known NamedElse) (Known NamedStmt) (Known NamedBlock) (Known NamedBranch) Else Stmt Block Branch (λ q. q.0) (λ q. q.0) (λ q. q.0) (λ q. q.0) y))
block_layer y = block_case (map-Block (Known NamedElse) (Known NamedStmt) (Known NamedBlock) (Known NamedBranch) Else Stmt Block Branch (λ q. q.0) (λ q. q.0) (λ q. q.0) (λ q. q.0) y) (each_known NamedStmt y.stmts)

-- parts that are known to be named make an `if` that is
branch_layer : (y : Branch-F (Known NamedElse) (Known NamedStmt) (Known NamedBlock) (Known NamedBranch)) → NamedBranch (roll-Branch (map-Branch (Known NamedElse) (Known NamedStmt) (Known NamedBlock) (Known NamedBranch) Else Stmt Block Branch (λ q. q.0) (λ q. q.0) (λ q. q.0) (λ q. q.0) y))
branch_layer y = branch_case (map-Branch (Known NamedElse) (Known NamedStmt) (Known NamedBlock) (Known NamedBranch) Else Stmt Block Branch (λ q. q.0) (λ q. q.0) (λ q. q.0) (λ q. q.0) y) y.body.1 y.other.1

-- a block that was placed is named
pub block_ok : (x : Block) → NamedBlock x
block_ok = ind-Block NamedElse NamedStmt NamedBlock NamedBranch
    (λ x y is. subst (λ z. NamedElse (roll-Else z)) is (else_layer y))
    (λ x y is. subst (λ z. NamedStmt (roll-Stmt z)) is (stmt_layer y))
    (λ x y is. subst (λ z. NamedBlock (roll-Block z)) is (block_layer y))
    (λ x y is. subst (λ z. NamedBranch (roll-Branch z)) is (branch_layer y))

-- a variable of that many numbers
var_by : (o : Option ℕ) (u : Var) (s : Bindings) → is_new (unwrap_or o 0) s u.name ≡ true → (nat_lt 0 (unwrap_or o 0) && nat_le (top s + unwrap_or o 0) MAX_STATE) ≡ true
    → var_named_by o u s ≡ Some (var_of u (unwrap_or o 0) ∷ s)
var_by None u s new fits = cc
var_by (Some n) u s new fits = ap (λ b. more_if b (var_of u n) s) (both_true _ _ new fits)

-- a variable whose name is new and whose numbers have room is named
sized_ok : (v : Var) (n : Name) (s : Bindings) (u : Var) (b : Bool) → (nat_lt 0 (numbers v) && nat_le (top s + numbers v) MAX_STATE) ≡ b
    → (if b then Ok (record { name = n; size = v.size; start = v.start }) else Err (fault_at kind.Size v.name)) ≡ Ok u → is_new (numbers v) s n ≡ true
    → var_named_by (size_of u.size) u s ≡ Some (var_of u (numbers u) ∷ s)
sized_ok v n s u false is e new = cc
sized_ok v n s u true is e new =
    let w : Var = record { name = n; size = v.size; start = v.start } in
    subst (λ (x : Var). var_named_by (size_of x.size) x s ≡ Some (var_of x (numbers x) ∷ s)) (ok_is w u (Ok w) refl e) (var_by (size_of v.size) w s new is)

-- a variable that was placed is named
var_ok : (v : Var) (s : Bindings) (u : Var) → var v s ≡ Ok u → var_named_by (size_of u.size) u s ≡ Some (var_of u (numbers u) ∷ s)
unfolding var
var_ok v s u e =
    let one = go_on_ok (new_name (numbers v) v.name s) (λ n. sized v n s) u e in
    sized_ok v one.0 s u (nat_lt 0 (numbers v) && nat_le (top s + numbers v) MAX_STATE) refl one.2 (new_ok (numbers v) v.name s one.0 one.1)

-- variables that were placed are named
vars_ok : (vs : List Var) (s : Bindings) (r : List Var × Bindings) → vars vs s ≡ Ok r → vars_named r.0 s ≡ Some r.1
vars_ok [] s r e =
    let w : List Var × Bindings = ([], s) in
    subst (λ (x : List Var × Bindings). vars_named x.0 s ≡ Some x.1) (ok_is w r (Ok w) refl e) refl
vars_ok (v ∷ vs) s r e =
    let one = go_on_ok (var v s) (λ u. go_on (vars vs (var_of u (numbers u) ∷ s)) (λ t. Ok (u ∷ t.0, t.1))) r e in
    let two = go_on_ok (vars vs (var_of one.0 (numbers one.0) ∷ s)) (λ t. Ok (one.0 ∷ t.0, t.1)) r one.2 in
    let w : List Var × Bindings = (one.0 ∷ two.0.0, two.0.1) in
    subst (λ (x : List Var × Bindings). vars_named x.0 s ≡ Some x.1) (ok_is w r (Ok w) refl two.2)
    (ap (λ o. pass_on o (vars_named two.0.0)) (var_ok v s one.0 one.1) ∙ vars_ok vs (var_of one.0 (numbers one.0) ∷ s) two.0 two.1)

-- a handler of inputs that was placed is named
input_ok : (i : OnInput) (s : Bindings) (u : OnInput) → on_input i s ≡ Ok u → input_named u s ≡ true
unfolding on_input
input_ok i s u e =
    let one = go_on_ok (new_name 0 i.payload s) (λ n. go_on (block i.body (payload_of n ∷ s)) (λ b. Ok (record { payload = n; body = b }))) u e in
    let two = go_on_ok (block i.body (payload_of one.0 ∷ s)) (λ b. Ok (record { payload = one.0; body = b })) u one.2 in
    let w : OnInput = record { payload = one.0; body = two.0 } in
    subst (λ x. input_named x s ≡ true) (ok_is w u (Ok w) refl two.2) (both_true _ _ (new_ok 0 i.payload s one.0 one.1) (block_ok i.body (payload_of one.0 ∷ s) two.0 two.1))

-- a handler of messages that was placed is named
receive_ok : (r : OnReceive) (s : Bindings) (u : OnReceive) → on_receive r s ≡ Ok u → receive_named u s ≡ true
unfolding on_receive
receive_ok r s u e =
    let one = go_on_ok (new_name 1 r.sender s) (λ p. go_on (new_name 0 r.payload (fixed_of p ∷ s)) (λ n. go_on (block r.body (payload_of n ∷ fixed_of p ∷ s)) (λ b. Ok (record { sender = p; payload = n; body = b })))) u e in
    let two = go_on_ok (new_name 0 r.payload (fixed_of one.0 ∷ s)) (λ n. go_on (block r.body (payload_of n ∷ fixed_of one.0 ∷ s)) (λ b. Ok (record { sender = one.0; payload = n; body = b }))) u one.2 in
    let three = go_on_ok (block r.body (payload_of two.0 ∷ fixed_of one.0 ∷ s)) (λ b. Ok (record { sender = one.0; payload = two.0; body = b })) u two.2 in
    let w : OnReceive = record { sender = one.0; payload = two.0; body = three.0 } in
    subst (λ x. receive_named x s ≡ true) (ok_is w u (Ok w) refl three.2)
    (both_true _ _ (new_ok 1 r.sender s one.0 one.1) (both_true _ _ (new_ok 0 r.payload (fixed_of one.0 ∷ s) two.0 two.1) (block_ok r.body (payload_of two.0 ∷ fixed_of one.0 ∷ s) three.0 three.1)))

-- a machine that was placed is named
pub check_ok : (m n : Machine) → check m ≡ Ok n → is_named n ≡ true
unfolding check is_named
check_ok m n e =
    let one = go_on_ok (vars m.vars []) (λ r. go_on (on_input m.on_input r.1) (λ i. go_on (on_receive m.on_receive r.1) (λ x. Ok (record { vars = r.0; on_input = i; on_receive = x })))) n e in
    let two = go_on_ok (on_input m.on_input one.0.1) (λ i. go_on (on_receive m.on_receive one.0.1) (λ x. Ok (record { vars = one.0.0; on_input = i; on_receive = x }))) n one.2 in
    let three = go_on_ok (on_receive m.on_receive one.0.1) (λ x. Ok (record { vars = one.0.0; on_input = two.0; on_receive = x })) n two.2 in
    let w : Machine = record { vars = one.0.0; on_input = two.0; on_receive = three.0 } in
    subst (λ x. is_named x ≡ true) (ok_is w n (Ok w) refl three.2)
    (ap (λ o. then_named o (λ s. input_named two.0 s && receive_named three.0 s)) (vars_ok m.vars [] one.0 one.1)
    ∙ both_true _ _ (input_ok m.on_input one.0.1 two.0 two.1) (receive_ok m.on_receive one.0.1 three.0 three.1))

-- The equations of statements: what each form becomes, by what its parts become.
use Rattle.std.proofs.Common.{◌≡◌, ◌∷◌, map, Option, Some, None, Ok, Err, refl, ap, ◌∙◌}
use Rattle.nys_tree.specs.declared.name.Name.{Name}
use Rattle.nys_tree.specs.declared.expr.Expr.{Expr}
use Rattle.nys_tree.specs.declared.stmt.Target.{Target}
use Rattle.nys_tree.specs.declared.stmt.Values.{Values}
use Rattle.nys_tree.specs.declared.stmt.Else.{Else, fold_out-Else, map-Else}
use Rattle.nys_tree.specs.declared.stmt.Stmt.{Stmt, fold_out-Stmt, map-Stmt}
use Rattle.nys_tree.specs.declared.stmt.Block.{Block, fold_out-Block, out-Block, roll-Block}
use Rattle.nys_tree.specs.declared.stmt.Branch.{Branch, fold_out-Branch, out-Branch, roll-Branch}
use Rattle.nys_tree.specs.declared.stmt.Stmt.TheVariants as sv
use Rattle.nys_tree.specs.declared.stmt.Else.TheVariants as ev
use Rattle.nys_tree.specs.Bindings.{Declared, Bindings, let_of, fixed_of}
use Rattle.nys_names.specs.Names.{Outcome, Placed, go_on, set_scalar, set_list, new_name}
use Rattle.nys_names.specs.Exprs.{expr}
use Rattle.nys_names.specs.Stmts.{target, values, loop_head, stmts_placed, else_step, stmt_step, block_step, branch_step, other, stmt, block, branch}

-- a block becomes what its statements become
pub block_is : (t : Block) (s : Bindings) → block t s ≡ go_on (stmts_placed (map stmt (out-Block t).stmts) s) (λ xs. Ok (roll-Block (record { stmts = xs })))
unfolding other stmt block branch
block_is t s = ap (λ f. f s) (fold_out-Block (Placed Else) (Placed (Stmt × Option Declared)) (Placed Block) (Placed Branch) else_step stmt_step block_step branch_step t)

-- an `if`: its test, its block, then what stands behind
pub branch_is : (t : Branch) (s : Bindings) → branch t s ≡ go_on (expr (out-Branch t).test s) (λ x. go_on (block (out-Branch t).body s) (λ y. go_on (other (out-Branch t).other s) (λ z. Ok (roll-Branch (record { test = x; body = y; other = z })))))
unfolding other stmt block branch
branch_is t s = ap (λ f. f s) (fold_out-Branch (Placed Else) (Placed (Stmt × Option Declared)) (Placed Block) (Placed Branch) else_step stmt_step block_step branch_step t)

-- without an `else` nothing is tested
pub other_absent : (s : Bindings) → other ev.Absent s ≡ Ok ev.Absent
unfolding other stmt block branch
other_absent s = ap (λ f. f s) (fold_out-Else (Placed Else) (Placed (Stmt × Option Declared)) (Placed Block) (Placed Branch) else_step stmt_step block_step branch_step ev.Absent ∙ ap (λ d. else_step (map-Else Else Stmt Block Branch (Placed Else) (Placed (Stmt × Option Declared)) (Placed Block) (Placed Branch) other stmt block branch d)) ev.outs-Absent)

-- an `else` becomes what its block becomes
pub other_last : (body : Block) (s : Bindings) → other (ev.Last body) s ≡ go_on (block body s) (λ x. Ok (ev.Last x))
unfolding other stmt block branch
other_last body s = ap (λ f. f s) (fold_out-Else (Placed Else) (Placed (Stmt × Option Declared)) (Placed Block) (Placed Branch) else_step stmt_step block_step branch_step (ev.Last body) ∙ ap (λ d. else_step (map-Else Else Stmt Block Branch (Placed Else) (Placed (Stmt × Option Declared)) (Placed Block) (Placed Branch) other stmt block branch d)) (ev.outs-Last body))

-- an `else if` becomes what its `if` becomes
pub other_further : (b : Branch) (s : Bindings) → other (ev.Further b) s ≡ go_on (branch b s) (λ x. Ok (ev.Further x))
unfolding other stmt block branch
other_further b s = ap (λ f. f s) (fold_out-Else (Placed Else) (Placed (Stmt × Option Declared)) (Placed Block) (Placed Branch) else_step stmt_step block_step branch_step (ev.Further b) ∙ ap (λ d. else_step (map-Else Else Stmt Block Branch (Placed Else) (Placed (Stmt × Option Declared)) (Placed Block) (Placed Branch) other stmt block branch d)) (ev.outs-Further b))

-- a `let`: its name is new before its value is tested, and is declared behind it
pub stmt_let : (name : Name) (e : Expr) (s : Bindings) → stmt (sv.Let name e) s ≡ go_on (new_name 1 name s) (λ n. go_on (expr e s) (λ x. Ok (sv.Let n x, Some (let_of n))))
unfolding other stmt block branch
stmt_let name e s = ap (λ f. f s) (fold_out-Stmt (Placed Else) (Placed (Stmt × Option Declared)) (Placed Block) (Placed Branch) else_step stmt_step block_step branch_step (sv.Let name e) ∙ ap (λ d. stmt_step (map-Stmt Else Stmt Block Branch (Placed Else) (Placed (Stmt × Option Declared)) (Placed Block) (Placed Branch) other stmt block branch d)) (sv.outs-Let name e))

-- an assignment: its name before its value
pub stmt_set : (name : Name) (e : Expr) (s : Bindings) → stmt (sv.Set name e) s ≡ go_on (set_scalar name s) (λ n. go_on (expr e s) (λ x. Ok (sv.Set n x, None)))
unfolding other stmt block branch
stmt_set name e s = ap (λ f. f s) (fold_out-Stmt (Placed Else) (Placed (Stmt × Option Declared)) (Placed Block) (Placed Branch) else_step stmt_step block_step branch_step (sv.Set name e) ∙ ap (λ d. stmt_step (map-Stmt Else Stmt Block Branch (Placed Else) (Placed (Stmt × Option Declared)) (Placed Block) (Placed Branch) other stmt block branch d)) (sv.outs-Set name e))

-- an assignment to an item: its name, its index, then its value
pub stmt_set_item : (name : Name) (i : Expr) (e : Expr) (s : Bindings) → stmt (sv.SetItem name i e) s ≡ go_on (set_list name s) (λ n. go_on (expr i s) (λ x. go_on (expr e s) (λ y. Ok (sv.SetItem n x y, None))))
unfolding other stmt block branch
stmt_set_item name i e s = ap (λ f. f s) (fold_out-Stmt (Placed Else) (Placed (Stmt × Option Declared)) (Placed Block) (Placed Branch) else_step stmt_step block_step branch_step (sv.SetItem name i e) ∙ ap (λ d. stmt_step (map-Stmt Else Stmt Block Branch (Placed Else) (Placed (Stmt × Option Declared)) (Placed Block) (Placed Branch) other stmt block branch d)) (sv.outs-SetItem name i e))

-- an `if` declares nothing
pub stmt_if : (b : Branch) (s : Bindings) → stmt (sv.If b) s ≡ go_on (branch b s) (λ x. Ok (sv.If x, None))
unfolding other stmt block branch
stmt_if b s = ap (λ f. f s) (fold_out-Stmt (Placed Else) (Placed (Stmt × Option Declared)) (Placed Block) (Placed Branch) else_step stmt_step block_step branch_step (sv.If b) ∙ ap (λ d. stmt_step (map-Stmt Else Stmt Block Branch (Placed Else) (Placed (Stmt × Option Declared)) (Placed Block) (Placed Branch) other stmt block branch d)) (sv.outs-If b))

-- a `for`: its name, its bounds, then its block, which sees the name
pub stmt_for : (name : Name) (a : Expr) (b : Expr) (body : Block) (s : Bindings) → stmt (sv.For name a b body) s ≡ go_on (new_name 1 name s) (λ n. go_on (expr a s) (λ x. go_on (expr b s) (λ y. go_on (block body (fixed_of n ∷ s)) (λ z. Ok (sv.For n x y z, None)))))
unfolding other stmt block branch
stmt_for name a b body s = ap (λ f. f s) (fold_out-Stmt (Placed Else) (Placed (Stmt × Option Declared)) (Placed Block) (Placed Branch) else_step stmt_step block_step branch_step (sv.For name a b body) ∙ ap (λ d. stmt_step (map-Stmt Else Stmt Block Branch (Placed Else) (Placed (Stmt × Option Declared)) (Placed Block) (Placed Branch) other stmt block branch d)) (sv.outs-For name a b body))

-- an `each`: its name, then its block, which sees the name
pub stmt_each : (name : Name) (body : Block) (s : Bindings) → stmt (sv.Each name body) s ≡ go_on (new_name 1 name s) (λ n. go_on (block body (fixed_of n ∷ s)) (λ z. Ok (sv.Each n z, None)))
unfolding other stmt block branch
stmt_each name body s = ap (λ f. f s) (fold_out-Stmt (Placed Else) (Placed (Stmt × Option Declared)) (Placed Block) (Placed Branch) else_step stmt_step block_step branch_step (sv.Each name body) ∙ ap (λ d. stmt_step (map-Stmt Else Stmt Block Branch (Placed Else) (Placed (Stmt × Option Declared)) (Placed Block) (Placed Branch) other stmt block branch d)) (sv.outs-Each name body))

-- a `send`: to whom, then its list
pub stmt_send : (to : Target) (list : Values) (s : Bindings) → stmt (sv.Send to list) s ≡ go_on (target to s) (λ x. go_on (values list s) (λ y. Ok (sv.Send x y, None)))
unfolding other stmt block branch
stmt_send to list s = ap (λ f. f s) (fold_out-Stmt (Placed Else) (Placed (Stmt × Option Declared)) (Placed Block) (Placed Branch) else_step stmt_step block_step branch_step (sv.Send to list) ∙ ap (λ d. stmt_step (map-Stmt Else Stmt Block Branch (Placed Else) (Placed (Stmt × Option Declared)) (Placed Block) (Placed Branch) other stmt block branch d)) (sv.outs-Send to list))

-- an `out` becomes what its list becomes
pub stmt_out : (list : Values) (s : Bindings) → stmt (sv.Out list) s ≡ go_on (values list s) (λ y. Ok (sv.Out y, None))
unfolding other stmt block branch
stmt_out list s = ap (λ f. f s) (fold_out-Stmt (Placed Else) (Placed (Stmt × Option Declared)) (Placed Block) (Placed Branch) else_step stmt_step block_step branch_step (sv.Out list) ∙ ap (λ d. stmt_step (map-Stmt Else Stmt Block Branch (Placed Else) (Placed (Stmt × Option Declared)) (Placed Block) (Placed Branch) other stmt block branch d)) (sv.outs-Out list))

-- a head of these parts
head_of : Name → Expr → Expr → Outcome (Name × Expr × Expr)
head_of n x y = let h : Name × Expr × Expr = (n, x, y) in Ok h

-- the parts of a head, one after the other
head_is : {B : Type 0} (o : Outcome Name) (p r : Outcome Expr) (f : Name → Expr → Expr → Outcome B)
    → go_on o (λ n. go_on p (λ x. go_on r (λ y. f n x y))) ≡ go_on (go_on o (λ n. go_on p (λ x. go_on r (head_of n x)))) (λ h. f h.0 h.1 h.2)
unfolding head_of
head_is (Err fault) p r f = refl
head_is (Ok n) (Err fault) r f = refl
head_is (Ok n) (Ok x) (Err fault) f = refl
head_is (Ok n) (Ok x) (Ok y) f = refl

-- a `for`: its head, then its block
pub stmt_loop : (name : Name) (a b : Expr) (body : Block) (s : Bindings) → stmt (sv.For name a b body) s ≡ go_on (loop_head name a b s) (λ h. go_on (block body (fixed_of h.0 ∷ s)) (λ z. Ok (sv.For h.0 h.1 h.2 z, None)))
unfolding head_of
stmt_loop name a b body s = stmt_for name a b body s ∙ head_is (new_name 1 name s) (expr a s) (expr b s) (λ n x y. go_on (block body (fixed_of n ∷ s)) (λ z. Ok (sv.For n x y z, None)))

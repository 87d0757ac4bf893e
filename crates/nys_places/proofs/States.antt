-- A handler leaves a state: each list of numbers keeps its length, and what a block declares is gone behind it.
use Rattle.std.proofs.Common.{◌≡◌, ℕ, zero, suc, ◌+◌, ◌-◌, ◌≤◌, ℤ, pos, negsuc, ◌+ℤ◌, int_lt, Bool, true, false, nat_lt, if◌then◌else◌, List, [], ◌∷◌, ◌++◌, length, drop, take, set, replicate, bytes_eq, Option, Some, None, refl, ap, sym, ◌∙◌, subst, arith, eq-eqb, eqb-true}
use Rattle.std.proofs.lemmas.List.{append_assoc, length-append, length-replicate, length-set, length-take, length-drop}
use Rattle.std.proofs.Math.Seq.{drop-append_seam}
use Rattle.nys_source.specs.declared.effect.Effect.{Effect}
use Rattle.nys_source.specs.declared.effect.Effect.TheVariants.{Send, Out}
use Rattle.nys_tree.specs.declared.expr.Expr.{Expr}
use Rattle.nys_tree.specs.declared.name.Name.{Name}
use Rattle.nys_tree.specs.declared.machine.Machine.{Machine}
use Rattle.nys_tree.specs.declared.machine.Var.{Var}
use Rattle.nys_tree.specs.declared.stmt.Target.{Target}
use Rattle.nys_tree.specs.declared.stmt.Target.TheVariants.{All as Everyone, Host}
use Rattle.nys_tree.specs.declared.stmt.Values.{Values}
use Rattle.nys_tree.specs.declared.stmt.Block.{Block, map-Block, roll-Block, out-roll-Block, ind-Block}
use Rattle.nys_tree.specs.declared.stmt.Branch.{Branch, map-Branch, roll-Branch, out-roll-Branch}
use Rattle.nys_tree.specs.declared.stmt.Else.{Else, map-Else, roll-Else}
use Rattle.nys_tree.specs.declared.stmt.Else.TheVariants as ev
use Rattle.nys_tree.specs.declared.stmt.Stmt.{Stmt, map-Stmt, roll-Stmt}
use Rattle.nys_tree.specs.declared.stmt.Stmt.TheVariants as sv
use Rattle.nys_tree.specs.declared.stmt.Else.TheOpen.{Else-F, Stmt-F, Block-F, Branch-F}
use Rattle.nys_meaning.specs.declared.here.Here.{Here}
use Rattle.nys_source.specs.declared.effect.TheConstants.{MAX_EFFECTS}
use Rattle.nys_meaning.specs.Numbers.{is_zero}
use Rattle.nys_meaning.specs.Exprs.{go_on, unit}
use Rattle.nys_meaning.specs.ByName.{Names, look, write, changed, put, by_name}
use Rattle.nys_meaning.specs.Stmts.{Run, Doing, with_names, with_effect, neighbour, sends, given, list_given, send_to, turn, loop, turns, stmt, block, branch, other, stmts, acts}
use Rattle.nys_meaning.specs.Machines.{count_of, starts, names_from, variables_of, numbers_in, handled, left_by, is_state, next}
use Rattle.nys_meaning.proofs.StmtEquations as eq
use Rattle.nys_places.proofs.ExprsAlike.{Each, Known, each_known}

-- how many numbers each name has
abbrev sizes : Names → List ℕ
sizes [] = []
sizes (d ∷ more) = length d.1 ∷ sizes more

-- the names from before have as many numbers as before
abbrev Stays : Names → Option (Run Names) → Type 0
Stays m None = Unit {0}
Stays m (Some u) = sizes u.names ≡ sizes m

-- the names from before are there behind new ones, with as many numbers as before
record Grew (m n : Names) : Type 0 where
  pub own : List ℕ
  pub grown : sizes n ≡ own ++ sizes m

-- the lengths, step by step
abbrev Grows : Names → Option (Run Names) → Type 0
Grows m None = Unit {0}
Grows m (Some u) = Grew m u.names

-- the lengths, step by step
stays_grow : (m : Names) (o : Option (Run Names)) → Stays m o → Grows m o
stays_grow m None k = tt
stays_grow m (Some u) k = record { own = []; grown = k }

-- the lengths, step by step
stay_on : (m : Names) (o : Option (Run Names)) (f : Doing Names) → Stays m o → ((u : Run Names) → sizes u.names ≡ sizes m → Stays m (f u)) → Stays m (go_on o f)
stay_on m None f k next = tt
stay_on m (Some u) f k next = next u k

-- the same, by the answer of its test
stay_by : (m n : Names) (o : Option (Run Names)) → sizes n ≡ sizes m → Stays n o → Stays m o
stay_by m n None e k = tt
stay_by m n (Some u) e k = k ∙ e

-- the lengths, step by step
one_stay : {A : Type 0} (m : Names) (o : Option A) (f : A → Option (Run Names)) → ((a : A) → Stays m (f a)) → Stays m (go_on o f)
one_stay m None f k = tt
one_stay m (Some a) f k = k a

-- the lengths, step by step
unit_stay : (m : Names) (n : ℕ) (f : ℕ → Option (Run Names)) → ((i : ℕ) → Stays m (f i)) → Stays m (unit n f)
unit_stay m zero f k = tt
unit_stay m (suc n) f k = k n

-- the lengths, step by step
one_grow : {A : Type 0} (m : Names) (o : Option A) (f : A → Option (Run Names)) → ((a : A) → Grows m (f a)) → Grows m (go_on o f)
one_grow m None f k = tt
one_grow m (Some a) f k = k a

-- the lengths, step by step
unit_grow : (m : Names) (n : ℕ) (f : ℕ → Option (Run Names)) → ((i : ℕ) → Grows m (f i)) → Grows m (unit n f)
unit_grow m zero f k = tt
unit_grow m (suc n) f k = k n

-- the same, by the answer of its test
write_by : (text : List ℕ) (d : List ℕ × List ℤ) (more : Names) (old numbers : List ℤ) (b : Bool) → length numbers ≡ length old
    → (look text more ≡ Some old → sizes (write text numbers more) ≡ sizes more) → (if b then Some d.1 else look text more) ≡ Some old
    → sizes (if b then (d.0, numbers) ∷ more else d ∷ write text numbers more) ≡ sizes (d ∷ more)
write_by text d more old numbers true size later e = let same : d.1 ≡ old = cc in ap (λ n. n ∷ sizes more) (size ∙ sym (ap length same))
write_by text d more old numbers false size later e = ap (λ l. length d.1 ∷ l) (later e)

-- the lengths, step by step
write_sizes : (text : List ℕ) (m : Names) (old numbers : List ℤ) → length numbers ≡ length old → look text m ≡ Some old → sizes (write text numbers m) ≡ sizes m
write_sizes text [] old numbers size e = refl
write_sizes text (d ∷ more) old numbers size e = write_by text d more old numbers (bytes_eq d.0 text) size (write_sizes text more old numbers size) e

-- the same, by the answer of its test
changed_by : (i : ℕ) (z : ℤ) (old numbers : List ℤ) (b : Bool) → (if b then Some (set old i z) else None) ≡ Some numbers → length numbers ≡ length old
changed_by i z old numbers true e = let same : set old i z ≡ numbers = cc in sym (ap length same) ∙ length-set old i z
changed_by i z old numbers false e = let no : None ≡ Some numbers = e in cc

-- the lengths, step by step
changed_size : (i z : ℤ) (old numbers : List ℤ) → changed i z old ≡ Some numbers → length numbers ≡ length old
changed_size (pos i) z old numbers e = changed_by i z old numbers (nat_lt i (length old)) e
changed_size (negsuc i) z old numbers e = let no : None ≡ Some numbers = e in cc

-- the same, by the answer of its test
put_by2 : (u : Run Names) (text : List ℕ) (old : List ℤ) (i z : ℤ) (o : Option (List ℤ)) → look text u.names ≡ Some old → changed i z old ≡ o
    → Stays u.names (with_names u (go_on o (λ numbers. Some (write text numbers u.names))))
put_by2 u text old i z None e f = tt
put_by2 u text old i z (Some numbers) e f = write_sizes text u.names old numbers (changed_size i z old numbers f) e

-- the same, by the answer of its test
put_by : (u : Run Names) (text : List ℕ) (i z : ℤ) (o : Option (List ℤ)) → look text u.names ≡ o
    → Stays u.names (with_names u (go_on o (λ old. go_on (changed i z old) (λ numbers. Some (write text numbers u.names)))))
put_by u text i z None e = tt
put_by u text i z (Some old) e = put_by2 u text old i z (changed i z old) e refl

-- an assignment keeps the lengths
put_stays : (u : Run Names) (name : Name) (i z : ℤ) → Stays u.names (with_names u (put u.names name i z))
put_stays u name i z = put_by u name.text i z (look name.text u.names) refl

-- the same, by the answer of its test
effect_by : (u : Run Names) (effect : Effect) (b : Bool) → Stays u.names (if b then Some (record u { effects = u.effects ++ effect ∷ [] }) else None)
effect_by u effect true = refl
effect_by u effect false = tt

-- the lengths, step by step
effect_stays : (u : Run Names) (effect : Effect) → Stays u.names (with_effect u effect)
effect_stays u effect = effect_by u effect (nat_lt (length u.effects) MAX_EFFECTS)

-- the lengths, step by step
sends_stay : (numbers : List ℤ) (near : List ℕ) (u : Run Names) → Stays u.names (sends numbers near u)
sends_stay numbers [] u = refl
sends_stay numbers (q ∷ more) u = stay_on u.names (with_effect u (Send q numbers)) (sends numbers more) (effect_stays u (Send q numbers)) (λ v e. stay_by u.names v.names (sends numbers more v) e (sends_stay numbers more v))

-- the lengths, step by step
length-sizes : (m : Names) → length (sizes m) ≡ length m
length-sizes [] = refl
length-sizes (d ∷ more) = ap suc (length-sizes more)

-- the lengths, step by step
drop-sizes : (n : ℕ) (m : Names) → sizes (drop n m) ≡ drop n (sizes m)
drop-sizes zero m = refl
drop-sizes (suc n) [] = refl
drop-sizes (suc n) (d ∷ more) = drop-sizes n more

-- behind a block the names from before are left, with as many numbers
leave_stays : (before behind : Names) → Grew before behind → sizes (by_name.leave before behind) ≡ sizes before
leave_stays before behind k =
    let a = length-sizes before in let b = length-sizes behind in let c = ap length k.grown in let d = length-append k.own (sizes before) in
    let n : length behind - length before ≡ length k.own = omega (arith, a, b, c, d) in
    drop-sizes (length behind - length before) behind
    ∙ (ap (λ x. drop x (sizes behind)) n ∙ (ap (drop (length k.own)) k.grown ∙ drop-append_seam k.own (sizes before)))

module _ (h : Here) where
  abbrev GrowStmt : Stmt → Type 0
  GrowStmt x = (u : Run Names) → Grows u.names (stmt by_name h x u)

  -- the part keeps the lengths
  abbrev StayBlock : Block → Type 0
  StayBlock x = (u : Run Names) → Stays u.names (block by_name h x u)

  -- the part keeps the lengths
  abbrev StayBranch : Branch → Type 0
  StayBranch x = (u : Run Names) → Stays u.names (branch by_name h x u)

  -- the part keeps the lengths
  abbrev StayElse : Else → Type 0
  StayElse x = (u : Run Names) → Stays u.names (other by_name h x u)

  -- the lengths, step by step
  same_stay : (m : Names) (o q : Option (Run Names)) → o ≡ q → Stays m q → Stays m o
  same_stay m o q e k = subst (Stays m) (sym e) k

  -- the lengths, step by step
  given_stay : (e : Expr) (u : Run Names) (f : ℤ → Doing Names) → ((z : ℤ) (n : ℕ) → Stays u.names (f z (record u { left = n }))) → Stays u.names (given by_name h e u f)
  given_stay e u f k = one_stay u.names _ (λ x. f x.number (record u { left = x.left })) (λ x. k x.number x.left)

  -- the lengths, step by step
  list_stay : (members : List Expr) (u : Run Names) (f : List ℤ → Doing Names) → ((zs : List ℤ) (n : ℕ) → Stays u.names (f zs (record u { left = n }))) → Stays u.names (list_given by_name h members u f)
  list_stay members u f k = one_stay u.names _ (λ l. f l.numbers (record u { left = l.left })) (λ l. k l.numbers l.left)

  -- the lengths, step by step
  send_stay : (to : Target) (members : List Expr) (u : Run Names) → Stays u.names (send_to by_name h to members u)
  send_stay Everyone members u = list_stay members u (λ numbers. sends numbers h.near) (λ numbers n. sends_stay numbers h.near (record u { left = n }))
  send_stay (Host e) members u =
      given_stay e u (λ z v. list_given by_name h members v (λ numbers w. go_on (neighbour h z) (λ q. with_effect w (Send q numbers))))
      (λ z n. list_stay members (record u { left = n }) (λ numbers w. go_on (neighbour h z) (λ q. with_effect w (Send q numbers)))
      (λ numbers k. one_stay u.names (neighbour h z) (λ q. with_effect (record u { left = k }) (Send q numbers)) (λ q. effect_stays (record u { left = k }) (Send q numbers))))

  -- the lengths, step by step
  turn_stay : (f : Doing Names) (name : Name) (z : ℤ) → ((v : Run Names) → Stays v.names (f v)) → (u : Run Names) → Stays u.names (turn by_name h f name z u)
  turn_stay f name z body u = unit_stay u.names u.left _ (λ n.
      let start : Run Names = record u { left = n; names = (name.text, z ∷ []) ∷ u.names } in
      turn_by start (f start) (body start)) where
        turn_by : (start : Run Names) (o : Option (Run Names)) → Stays ((name.text, z ∷ []) ∷ u.names) o → Stays u.names (go_on o (λ (w : Run Names). Some (record w { names = by_name.leave u.names w.names })))
        turn_by start None k = tt
        turn_by start (Some w) k = leave_stays u.names w.names (record { own = 1 ∷ []; grown = k })

  -- the same, by the answer of its test
  loop_by : (f : Doing Names) (name : Name) (z : ℤ) (u : Run Names) (more : Doing Names) (b : Bool) → Stays u.names (turn by_name h f name z u) → ((v : Run Names) → Stays v.names (more v))
      → Stays u.names (if b then go_on (turn by_name h f name z u) more else Some u)
  loop_by f name z u more true one k = stay_on u.names (turn by_name h f name z u) more one (λ v e. stay_by u.names v.names (more v) e (k v))
  loop_by f name z u more false one k = refl

  -- the lengths, step by step
  loop_stay : (n : ℕ) (f : Doing Names) (name : Name) (to z : ℤ) → ((v : Run Names) → Stays v.names (f v)) → (u : Run Names) → Stays u.names (loop by_name h n f name to z u)
  unfolding loop
  loop_stay zero f name to z body u = tt
  loop_stay (suc n) f name to z body u =
      loop_by f name z u (loop by_name h n f name to (z +ℤ pos 1)) (int_lt z to) (turn_stay f name z body u) (loop_stay n f name to (z +ℤ pos 1) body)

  -- the lengths, step by step
  turns_stay : (near_hosts : List ℕ) (f : Doing Names) (name : Name) → ((v : Run Names) → Stays v.names (f v)) → (u : Run Names) → Stays u.names (turns by_name h f name near_hosts u)
  turns_stay [] f name body u = refl
  turns_stay (q ∷ more) f name body u =
      stay_on u.names (turn by_name h f name (pos q) u) (turns by_name h f name more) (turn_stay f name (pos q) body u) (λ v e. stay_by u.names v.names (turns by_name h f name more v) e (turns_stay more f name body v))

  -- the lengths, step by step
  more_grows : (m n : Names) (o : Option (Run Names)) → Grew m n → Grows n o → Grows m o
  more_grows m n None a b = tt
  more_grows m n (Some v) a b = record { own = b.own ++ a.own; grown = b.grown ∙ (ap (λ l. b.own ++ l) a.grown ∙ sym (append_assoc b.own a.own (sizes m))) }

  -- the lengths, step by step
  stmts_grow : (xs : List Stmt) → Each GrowStmt xs → (m : Names) (o : Option (Run Names)) → Grows m o → Grows m (stmts by_name h o xs)
  stmts_grow [] k m None fine = tt
  stmts_grow [] k m (Some u) fine = fine
  stmts_grow (x ∷ more) k m None fine = tt
  stmts_grow (x ∷ more) k m (Some u) fine = stmts_grow more k.1 m (stmt by_name h x u) (more_grows m u.names (stmt by_name h x u) fine (k.0 u))

  -- the same, by the answer of its test
  leave_by : (m : Names) (o : Option (Run Names)) → Grows m o → Stays m (go_on o (λ (w : Run Names). Some (record w { names = by_name.leave m w.names })))
  leave_by m None k = tt
  leave_by m (Some w) k = leave_stays m w.names k

  -- the form keeps the lengths where its parts are
  block_case : (x : Block-F Else Stmt Block Branch) → Each GrowStmt x.stmts → StayBlock (roll-Block x)
  block_case x k = λ u.
      same_stay u.names _ _ (eq.block_is by_name h (roll-Block x) u ∙ ap (λ (y : Block-F Else Stmt Block Branch). go_on (stmts by_name h (Some u) y.stmts) (λ w. Some (record w { names = by_name.leave u.names w.names }))) (out-roll-Block x))
      (leave_by u.names (stmts by_name h (Some u) x.stmts) (stmts_grow x.stmts k u.names (Some u) (record { own = []; grown = refl })))

  -- the same, by the answer of its test
  choice_by : (m : Names) (o q : Option (Run Names)) (b : Bool) → Stays m o → Stays m q → Stays m (if b then o else q)
  choice_by m o q true = λ yes no. yes
  choice_by m o q false = λ yes no. no

  -- the form keeps the lengths where its parts are
  branch_case : (x : Branch-F Else Stmt Block Branch) → StayBlock x.body → StayElse x.other → StayBranch (roll-Branch x)
  branch_case x body other_one = λ u.
      same_stay u.names _ _ (eq.branch_is by_name h (roll-Branch x) u ∙ ap (λ (y : Branch-F Else Stmt Block Branch). given by_name h y.test u (λ z v. if is_zero z then other by_name h y.other v else block by_name h y.body v)) (out-roll-Branch x))
      (given_stay x.test u (λ z v. if is_zero z then other by_name h x.other v else block by_name h x.body v)
      (λ z n. choice_by u.names (other by_name h x.other (record u { left = n })) (block by_name h x.body (record u { left = n })) (is_zero z) (other_one (record u { left = n })) (body (record u { left = n }))))

  -- the lengths, step by step
  other_absent : StayElse ev.Absent
  other_absent = λ u. same_stay u.names _ _ (eq.other_absent by_name h u) refl

  -- the lengths, step by step
  other_last : (x : Block) → StayBlock x → StayElse (ev.Last x)
  other_last x k = λ u. same_stay u.names _ _ (eq.other_last by_name h x u) (k u)

  -- the lengths, step by step
  other_further : (x : Branch) → StayBranch x → StayElse (ev.Further x)
  other_further x k = λ u. same_stay u.names _ _ (eq.other_further by_name h x u) (unit_stay u.names u.left (λ n. branch by_name h x (record u { left = n })) (λ n. k (record u { left = n })))

  -- the lengths, step by step
  plain : (x : Stmt) → ((v : Run Names) → Stays v.names (acts by_name h x v)) → GrowStmt x
  plain x k = λ u. stays_grow u.names (stmt by_name h x u) (same_stay u.names _ _ (eq.stmt_is by_name h x u) (unit_stay u.names u.left (λ n. acts by_name h x (record u { left = n })) (λ n. k (record u { left = n }))))

  -- the lengths, step by step
  stmt_let : (name : Name) (e : Expr) → GrowStmt (sv.Let name e)
  stmt_let name e = λ u. subst (Grows u.names) (sym (eq.stmt_let by_name h name e u))
      (unit_grow u.names u.left (λ n. given by_name h e (record u { left = n }) (λ z w. Some (record w { names = by_name.bind w.names name z })))
      (λ n. one_grow u.names _ (λ x. Some (record u { left = x.left; names = by_name.bind u.names name x.number })) (λ x. record { own = 1 ∷ []; grown = refl })))

  -- the lengths, step by step
  stmt_set : (name : Name) (e : Expr) → GrowStmt (sv.Set name e)
  stmt_set name e = plain (sv.Set name e) (λ u. same_stay u.names _ _ (eq.acts_set by_name h name e u)
      (given_stay e u (λ z w. with_names w (by_name.set w.names name z)) (λ z n. put_stays (record u { left = n }) name (pos 0) z)))

  -- the lengths, step by step
  stmt_set_item : (name : Name) (i e : Expr) → GrowStmt (sv.SetItem name i e)
  stmt_set_item name i e = plain (sv.SetItem name i e) (λ u. same_stay u.names _ _ (eq.acts_set_item by_name h name i e u)
      (given_stay i u (λ at w. given by_name h e w (λ z x. with_names x (by_name.set_item x.names name at z)))
      (λ at n. given_stay e (record u { left = n }) (λ z x. with_names x (by_name.set_item x.names name at z)) (λ z k. put_stays (record u { left = k }) name at z))))

  -- the lengths, step by step
  stmt_if : (x : Branch) → StayBranch x → GrowStmt (sv.If x)
  stmt_if x k = plain (sv.If x) (λ u. same_stay u.names _ _ (eq.acts_if by_name h x u) (k u))

  -- the lengths, step by step
  stmt_for : (name : Name) (from to : Expr) (body : Block) → StayBlock body → GrowStmt (sv.For name from to body)
  stmt_for name from to body k = plain (sv.For name from to body) (λ u. same_stay u.names _ _ (eq.acts_for by_name h name from to body u)
      (given_stay from u (λ a w. given by_name h to w (λ b x. loop by_name h (suc x.left) (block by_name h body) name b a x))
      (λ a n. given_stay to (record u { left = n }) (λ b x. loop by_name h (suc x.left) (block by_name h body) name b a x) (λ b j. loop_stay (suc j) (block by_name h body) name b a k (record u { left = j })))))

  -- the lengths, step by step
  stmt_each : (name : Name) (body : Block) → StayBlock body → GrowStmt (sv.Each name body)
  stmt_each name body k = plain (sv.Each name body) (λ u. same_stay u.names _ _ (eq.acts_each by_name h name body u) (turns_stay h.near (block by_name h body) name k u))

  -- the lengths, step by step
  stmt_send : (to : Target) (list : Values) → GrowStmt (sv.Send to list)
  stmt_send to list = plain (sv.Send to list) (λ u. same_stay u.names _ _ (eq.acts_send by_name h to list u) (send_stay to list.members u))

  -- the lengths, step by step
  stmt_out : (list : Values) → GrowStmt (sv.Out list)
  stmt_out list = plain (sv.Out list) (λ u. same_stay u.names _ _ (eq.acts_out by_name h list u)
      (list_stay list.members u (λ numbers w. with_effect w (Out numbers)) (λ numbers n. effect_stays (record u { left = n }) (Out numbers))))

  -- a layer whose parts are known keeps the lengths
  else_layer : (y : Else-F (Known StayElse) (Known GrowStmt) (Known StayBlock) (Known StayBranch)) → StayElse (roll-Else (map-Else (Known StayElse) (Known GrowStmt) (Known StayBlock) (Known StayBranch) Else Stmt Block Branch (λ q. q.0) (λ q. q.0) (λ q. q.0) (λ q. q.0) y))
  else_layer Else-F.Absent = subst StayElse (sym ev.rolls-Absent) other_absent
  else_layer (Else-F.Last x) = subst StayElse (sym (ev.rolls-Last x.0)) (other_last x.0 x.1)
  else_layer (Else-F.Further x) = subst StayElse (sym (ev.rolls-Further x.0)) (other_further x.0 x.1)

  -- a layer whose parts are known keeps the lengths
  stmt_layer : (y : Stmt-F (Known StayElse) (Known GrowStmt) (Known StayBlock) (Known StayBranch)) → GrowStmt (roll-Stmt (map-Stmt (Known StayElse) (Known GrowStmt) (Known StayBlock) (Known StayBranch) Else Stmt Block Branch (λ q. q.0) (λ q. q.0) (λ q. q.0) (λ q. q.0) y))
  stmt_layer (Stmt-F.Let name e) = subst GrowStmt (sym (sv.rolls-Let name e)) (stmt_let name e)
  stmt_layer (Stmt-F.Set name e) = subst GrowStmt (sym (sv.rolls-Set name e)) (stmt_set name e)
  stmt_layer (Stmt-F.SetItem name i e) = subst GrowStmt (sym (sv.rolls-SetItem name i e)) (stmt_set_item name i e)
  stmt_layer (Stmt-F.If x) = subst GrowStmt (sym (sv.rolls-If x.0)) (stmt_if x.0 x.1)
  stmt_layer (Stmt-F.For name from to x) = subst GrowStmt (sym (sv.rolls-For name from to x.0)) (stmt_for name from to x.0 x.1)
  stmt_layer (Stmt-F.Each name x) = subst GrowStmt (sym (sv.rolls-Each name x.0)) (stmt_each name x.0 x.1)
  stmt_layer (Stmt-F.Send to list) = subst GrowStmt (sym (sv.rolls-Send to list)) (stmt_send to list)
  stmt_layer (Stmt-F.Out list) = subst GrowStmt (sym (sv.rolls-Out list)) (stmt_out list)

  -- a layer whose parts are known keeps the lengths
  block_layer : (y : Block-F (Known StayElse) (Known GrowStmt) (Known StayBlock) (Known StayBranch)) → StayBlock (roll-Block (map-Block (Known StayElse) (Known GrowStmt) (Known StayBlock) (Known StayBranch) Else Stmt Block Branch (λ q. q.0) (λ q. q.0) (λ q. q.0) (λ q. q.0) y))
  block_layer y = block_case (map-Block (Known StayElse) (Known GrowStmt) (Known StayBlock) (Known StayBranch) Else Stmt Block Branch (λ q. q.0) (λ q. q.0) (λ q. q.0) (λ q. q.0) y) (each_known GrowStmt y.stmts)

  -- a layer whose parts are known keeps the lengths
  branch_layer : (y : Branch-F (Known StayElse) (Known GrowStmt) (Known StayBlock) (Known StayBranch)) → StayBranch (roll-Branch (map-Branch (Known StayElse) (Known GrowStmt) (Known StayBlock) (Known StayBranch) Else Stmt Block Branch (λ q. q.0) (λ q. q.0) (λ q. q.0) (λ q. q.0) y))
  branch_layer y = branch_case (map-Branch (Known StayElse) (Known GrowStmt) (Known StayBlock) (Known StayBranch) Else Stmt Block Branch (λ q. q.0) (λ q. q.0) (λ q. q.0) (λ q. q.0) y) y.body.1 y.other.1

  -- a block keeps the lengths
  block_stays : (x : Block) → StayBlock x
  block_stays = ind-Block StayElse GrowStmt StayBlock StayBranch
      (λ x y is. subst (λ z. StayElse (roll-Else z)) is (else_layer y))
      (λ x y is. subst (λ z. GrowStmt (roll-Stmt z)) is (stmt_layer y))
      (λ x y is. subst (λ z. StayBlock (roll-Block z)) is (block_layer y))
      (λ x y is. subst (λ z. StayBranch (roll-Branch z)) is (branch_layer y))

-- how many numbers names have together
abbrev total : List ℕ → ℕ
total [] = 0
total (n ∷ more) = total more + n

-- the lengths, step by step
length-numbers_in : (m : Names) → length (numbers_in m) ≡ total (sizes m)
length-numbers_in [] = refl
length-numbers_in (d ∷ more) = let a = length-append (numbers_in more) d.1 in let b = length-numbers_in more in omega (arith, a, b)

-- the variables have together what a state has
names_total : (vs : List Var) (state : List ℤ) (m : Names) → length (starts vs) ≤ length state → total (sizes (names_from vs state m)) ≡ total (sizes m) + length (starts vs)
names_total [] state m le = omega arith
names_total (v ∷ vs) state m le =
    let n = count_of v in
    let size = length-append (replicate n v.start) (starts vs) in let own = length-replicate n v.start in let left = length-drop n state in
    let here = length-take n state in
    let inner = names_total vs (drop n state) ((v.name.text, take n state) ∷ m) (omega (arith, size, own, left, le)) in
    omega (arith, inner, size, own, here, le)

-- the lengths, step by step
left_by_size : (m : Machine) (state : List ℤ) (before : Names) (own : List ℕ) (o : Option (Run Names)) → sizes before ≡ own ++ sizes (variables_of m state) → Stays before o → length state ≡ length (starts m.vars)
    → length (left_by (variables_of m state) state o).0 ≡ length state
left_by_size m state before own None e k size = refl
left_by_size m state before own (Some u) e k size =
    let same = leave_stays (variables_of m state) u.names (record { own = own; grown = k ∙ e }) in
    let a = length-numbers_in (by_name.leave (variables_of m state) u.names) in
    let b = ap total same in
    let c = names_total m.vars state [] (omega (arith, size)) in
    omega (arith, a, b, c, size)

-- the lengths, step by step
handled_size : (m : Machine) (h : Here) (state : List ℤ) (from : Option ℕ) (payload : List ℤ) → length state ≡ length (starts m.vars)
    → length (left_by (variables_of m state) state (handled m h from payload (variables_of m state))).0 ≡ length state
handled_size m h state None payload size =
    let vars = variables_of m state in
    left_by_size m state ((m.on_input.payload.text, payload) ∷ vars) (length payload ∷ []) _ refl (block_stays h m.on_input.body _) size
handled_size m h state (Some from) payload size =
    let vars = variables_of m state in
    left_by_size m state ((m.on_receive.payload.text, payload) ∷ (m.on_receive.sender.text, pos from ∷ []) ∷ vars) (length payload ∷ 1 ∷ []) _ refl (block_stays h m.on_receive.body _) size

-- a step, by whether its list is a state
next_by : (m : Machine) (h : Here) (state : List ℤ) (from : Option ℕ) (payload : List ℤ) (b : Bool) → is_state m state ≡ b
    → length (if b then left_by (variables_of m state) state (handled m h from payload (variables_of m state)) else (state, [])).0 ≡ length state
next_by m h state from payload true e = handled_size m h state from payload (eqb-true _ _ e)
next_by m h state from payload false e = refl

-- a step leaves as many numbers as there were
next_size : (m : Machine) (h : Here) (state : List ℤ) (from : Option ℕ) (payload : List ℤ) → length (next m h state from payload).0 ≡ length state
unfolding next
next_size m h state from payload = next_by m h state from payload (is_state m state) refl

-- a machine begins with a state
pub start_is_state : (m : Machine) → is_state m (starts m.vars) ≡ true
start_is_state m = eq-eqb _ _ refl

-- a step from a state leaves a state
pub next_is_state : (m : Machine) (h : Here) (state : List ℤ) (from : Option ℕ) (payload : List ℤ) → is_state m state ≡ true → is_state m (next m h state from payload).0 ≡ true
next_is_state m h state from payload k = eq-eqb _ _ (next_size m h state from payload ∙ eqb-true _ _ k)

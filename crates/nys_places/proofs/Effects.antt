-- A handler's effects: at most as many as it may have, and each an output or a send to a neighbour.
use Rattle.std.proofs.Common.{◌≡◌, ℕ, zero, suc, ◌≤◌, ℤ, pos, ◌+ℤ◌, int_lt, Bool, true, false, nat_lt, if◌then◌else◌, List, [], ◌∷◌, ◌++◌, length, filter, find, All, Option, Some, None, refl, ap, sym, ◌∙◌, subst, arith, ltb-true}
use Rattle.std.proofs.lemmas.List.{length-append}
use Rattle.std.proofs.lemmas.List.Elements.{All-append}
use Rattle.std.specs.Ordering.{int_eq}
use Rattle.std.specs.List.{range_with_len}
use Rattle.nys_source.specs.Rules.{Rules, IsEffectOf, AreEffectsOf}
use Rattle.nys_source.specs.declared.effect.Effect.{Effect}
use Rattle.nys_source.specs.declared.effect.Effect.TheVariants.{Send, Out}
use Rattle.nys_tree.specs.declared.expr.Expr.{Expr}
use Rattle.nys_tree.specs.declared.name.Name.{Name}
use Rattle.nys_tree.specs.declared.machine.Machine.{Machine}
use Rattle.nys_tree.specs.declared.stmt.Target.{Target}
use Rattle.nys_tree.specs.declared.stmt.Target.TheVariants.{All as Everyone, Host}
use Rattle.nys_tree.specs.declared.stmt.Values.{Values}
use Rattle.nys_tree.specs.declared.stmt.Block.{Block, map-Block, roll-Block, out-roll-Block, ind-Block}
use Rattle.nys_tree.specs.declared.stmt.Branch.{Branch, map-Branch, roll-Branch, out-roll-Branch}
use Rattle.nys_tree.specs.declared.stmt.Else.{Else, map-Else, roll-Else}
use Rattle.nys_tree.specs.declared.stmt.Else.TheVariants as ev
use Rattle.nys_tree.specs.declared.stmt.Stmt.{Stmt, map-Stmt, roll-Stmt}
use Rattle.nys_tree.specs.declared.stmt.Stmt.TheVariants as sv
use Rattle.nys_tree.specs.declared.stmt.Else.TheOpen.{Else-F, Stmt-F, Block-F, Branch-F}
use Rattle.nys_meaning.specs.declared.here.Here.{Here}
use Rattle.nys_source.specs.declared.effect.TheConstants.{MAX_EFFECTS}
use Rattle.nys_meaning.specs.Numbers.{is_zero}
use Rattle.nys_meaning.specs.Exprs.{go_on, unit}
use Rattle.nys_meaning.specs.ByName.{Names, by_name}
use Rattle.nys_meaning.specs.Stmts.{Run, Store, Doing, with_names, spend, with_effect, neighbour, sends, given, list_given, send_to, turn, loop, turns, stmt, block, branch, other, stmts, acts}
use Rattle.nys_meaning.specs.Machines.{variables_of, handled, left_by, is_state, next, here_at, machine_rules}
use Rattle.nys_meaning.proofs.StmtEquations as eq
use Rattle.nys_places.proofs.ExprsAlike.{Each, Known, each_known}

-- nothing is wrong with no effects
all_none : {X : Type 0} (P : X → Type 0) → All P []
all_none P = λ k d inside. absurd (omega (arith, inside))

module _ {S : Type 0} (rules : Rules S) (me : ℕ) where
  -- each of these hosts is a neighbour
  abbrev AreNear : List ℕ → Type 0
  AreNear [] = Unit {0}
  AreNear (q ∷ more) = (rules.linked me q ≡ true) × AreNear more

  -- the same, by the answer of its test
  found_by : (p : ℕ → Bool) (x q : ℕ) (more : List ℕ) (b : Bool) → rules.linked me x ≡ true → (find p more ≡ Some q → rules.linked me q ≡ true) → (if b then Some x else find p more) ≡ Some q → rules.linked me q ≡ true
  found_by p x q more true near later e = let same : x ≡ q = cc in ap (rules.linked me) (sym same) ∙ near
  found_by p x q more false near later e = later e

  -- the part keeps its effects such as they may be
  found_near : (p : ℕ → Bool) (near : List ℕ) (q : ℕ) → AreNear near → find p near ≡ Some q → rules.linked me q ≡ true
  found_near p [] q k e = let no : None ≡ Some q = e in cc
  found_near p (x ∷ more) q k e = found_by p x q more (p x) k.0 (found_near p more q k.1) e

module _ {E S : Type 0} (rules : Rules S) (me : ℕ) where
  -- the effects so far are such as a host may have
  record Fine (u : Run E) : Type 0 where
    pub few : length u.effects ≤ 64
    pub allowed : All (IsEffectOf rules me) u.effects

  -- a fault has no effects
  abbrev Keeps : Option (Run E) → Type 0
  Keeps None = Unit {0}
  Keeps (Some u) = Fine u

  -- the part keeps its effects such as they may be
  keep_on : (o : Option (Run E)) (f : Doing E) → Keeps o → ((u : Run E) → Fine u → Keeps (f u)) → Keeps (go_on o f)
  keep_on None f a k = tt
  keep_on (Some u) f a k = k u a

  -- the part keeps its effects such as they may be
  one_keep : {A : Type 0} (o : Option A) (f : A → Option (Run E)) → ((a : A) → Keeps (f a)) → Keeps (go_on o f)
  one_keep None f k = tt
  one_keep (Some a) f k = k a

  -- the part keeps its effects such as they may be
  unit_keep : (n : ℕ) (f : ℕ → Option (Run E)) → ((i : ℕ) → Keeps (f i)) → Keeps (unit n f)
  unit_keep zero f k = tt
  unit_keep (suc n) f k = k n

  -- the part keeps its effects such as they may be
  spend_keep : (u : Run E) (f : Doing E) → Fine u → ((v : Run E) → Fine v → Keeps (f v)) → Keeps (spend u f)
  spend_keep u f fine k = unit_keep u.left (λ n. f (record u { left = n })) (λ n. k (record u { left = n }) (record { few = fine.few; allowed = fine.allowed }))

  -- the part keeps its effects such as they may be
  names_keep : (u : Run E) (o : Option E) → Fine u → Keeps (with_names u o)
  names_keep u None fine = tt
  names_keep u (Some e) fine = record { few = fine.few; allowed = fine.allowed }

  -- the same, by the answer of its test
  effect_by : (u : Run E) (effect : Effect) (b : Bool) → nat_lt (length u.effects) MAX_EFFECTS ≡ b → Fine u → IsEffectOf rules me effect
      → Keeps (if b then Some (record u { effects = u.effects ++ effect ∷ [] }) else None)
  effect_by u effect true e fine ok =
      let lt = ltb-true _ _ e in let size = length-append u.effects (effect ∷ []) in
      record { few = omega (arith, lt, size); allowed = All-append (IsEffectOf rules me) u.effects (effect ∷ []) fine.allowed one_at } where
        one_at : All (IsEffectOf rules me) (effect ∷ [])
        one_at zero d inside = ok
        one_at (suc k) d inside = absurd (omega (arith, inside))
  effect_by u effect false e fine ok = tt

  -- the part keeps its effects such as they may be
  effect_keep : (u : Run E) (effect : Effect) → Fine u → IsEffectOf rules me effect → Keeps (with_effect u effect)
  effect_keep u effect fine ok = effect_by u effect (nat_lt (length u.effects) MAX_EFFECTS) refl fine ok

  -- the part keeps its effects such as they may be
  sends_keep : (numbers : List ℤ) (near : List ℕ) → AreNear rules me near → (u : Run E) → Fine u → Keeps (sends numbers near u)
  sends_keep numbers [] k u fine = fine
  sends_keep numbers (q ∷ more) k u fine = keep_on (with_effect u (Send q numbers)) (sends numbers more) (effect_keep u (Send q numbers) fine k.0) (sends_keep numbers more k.1)

  -- the part keeps its effects such as they may be
  known_keep : (o : Option ℕ) (f : ℕ → Option (Run E)) → ((q : ℕ) → o ≡ Some q → Keeps (f q)) → Keeps (go_on o f)
  known_keep None f k = tt
  known_keep (Some q) f k = k q refl

  module _ (store : Store E) (h : Here) (near : AreNear rules me h.near) where
    abbrev KeepStmt : Stmt → Type 0
    KeepStmt x = (u : Run E) → Fine u → Keeps (stmt store h x u)

    -- the part keeps its effects such as they may be
    abbrev KeepBlock : Block → Type 0
    KeepBlock x = (u : Run E) → Fine u → Keeps (block store h x u)

    -- the part keeps its effects such as they may be
    abbrev KeepBranch : Branch → Type 0
    KeepBranch x = (u : Run E) → Fine u → Keeps (branch store h x u)

    -- the part keeps its effects such as they may be
    abbrev KeepElse : Else → Type 0
    KeepElse x = (u : Run E) → Fine u → Keeps (other store h x u)

    -- the part keeps its effects such as they may be
    same_keep : (o q : Option (Run E)) → o ≡ q → Keeps q → Keeps o
    same_keep o q e k = subst Keeps (sym e) k

    -- the part keeps its effects such as they may be
    given_keep : (e : Expr) (u : Run E) (f : ℤ → Doing E) → Fine u → ((z : ℤ) (v : Run E) → Fine v → Keeps (f z v)) → Keeps (given store h e u f)
    given_keep e u f fine k = one_keep _ (λ x. f x.number (record u { left = x.left })) (λ x. k x.number (record u { left = x.left }) (record { few = fine.few; allowed = fine.allowed }))

    -- the part keeps its effects such as they may be
    list_keep : (members : List Expr) (u : Run E) (f : List ℤ → Doing E) → Fine u → ((zs : List ℤ) (v : Run E) → Fine v → Keeps (f zs v)) → Keeps (list_given store h members u f)
    list_keep members u f fine k = one_keep _ (λ l. f l.numbers (record u { left = l.left })) (λ l. k l.numbers (record u { left = l.left }) (record { few = fine.few; allowed = fine.allowed }))

    -- the part keeps its effects such as they may be
    send_keep : (to : Target) (members : List Expr) (u : Run E) → Fine u → Keeps (send_to store h to members u)
    send_keep Everyone members u fine = list_keep members u (λ numbers. sends numbers h.near) fine (λ numbers v k. sends_keep numbers h.near near v k)
    send_keep (Host e) members u fine =
        given_keep e u (λ z v. list_given store h members v (λ numbers w. go_on (neighbour h z) (λ q. with_effect w (Send q numbers)))) fine
        (λ z v k. list_keep members v (λ numbers w. go_on (neighbour h z) (λ q. with_effect w (Send q numbers))) k
        (λ numbers w l. known_keep (neighbour h z) (λ q. with_effect w (Send q numbers)) (λ q e2. effect_keep w (Send q numbers) l (found_near rules me (λ p. int_eq (pos p) z) h.near q near e2))))

    -- the part keeps its effects such as they may be
    turn_keep : (f : Doing E) (name : Name) (z : ℤ) → ((v : Run E) → Fine v → Keeps (f v)) → (u : Run E) → Fine u → Keeps (turn store h f name z u)
    turn_keep f name z body u fine =
        spend_keep u (λ v. go_on (f (record v { names = store.bind v.names name z })) (λ w. Some (record w { names = store.leave v.names w.names }))) fine
        (λ v k. keep_on (f (record v { names = store.bind v.names name z })) (λ w. Some (record w { names = store.leave v.names w.names }))
        (body (record v { names = store.bind v.names name z }) (record { few = k.few; allowed = k.allowed }))
        (λ w l. record { few = l.few; allowed = l.allowed }))

    -- the same, by the answer of its test
    loop_by : (f : Doing E) (name : Name) (z : ℤ) (u : Run E) (more : Doing E) (b : Bool) → Fine u → Keeps (turn store h f name z u) → ((v : Run E) → Fine v → Keeps (more v))
        → Keeps (if b then go_on (turn store h f name z u) more else Some u)
    loop_by f name z u more true fine one k = keep_on (turn store h f name z u) more one k
    loop_by f name z u more false fine one k = fine

    -- the part keeps its effects such as they may be
    loop_keep : (n : ℕ) (f : Doing E) (name : Name) (to z : ℤ) → ((v : Run E) → Fine v → Keeps (f v)) → (u : Run E) → Fine u → Keeps (loop store h n f name to z u)
    unfolding loop
    loop_keep zero f name to z body u fine = tt
    loop_keep (suc n) f name to z body u fine =
        loop_by f name z u (loop store h n f name to (z +ℤ pos 1)) (int_lt z to) fine (turn_keep f name z body u fine) (loop_keep n f name to (z +ℤ pos 1) body)

    -- the part keeps its effects such as they may be
    turns_keep : (near_hosts : List ℕ) (f : Doing E) (name : Name) → ((v : Run E) → Fine v → Keeps (f v)) → (u : Run E) → Fine u → Keeps (turns store h f name near_hosts u)
    turns_keep [] f name body u fine = fine
    turns_keep (q ∷ more) f name body u fine = keep_on (turn store h f name (pos q) u) (turns store h f name more) (turn_keep f name (pos q) body u fine) (turns_keep more f name body)

    -- the part keeps its effects such as they may be
    stmts_keep : (xs : List Stmt) → Each KeepStmt xs → (o : Option (Run E)) → Keeps o → Keeps (stmts store h o xs)
    stmts_keep [] k None fine = tt
    stmts_keep [] k (Some u) fine = fine
    stmts_keep (x ∷ more) k None fine = tt
    stmts_keep (x ∷ more) k (Some u) fine = stmts_keep more k.1 (stmt store h x u) (k.0 u fine)

    -- the form keeps its effects such as they may be where its parts are
    block_case : (x : Block-F Else Stmt Block Branch) → Each KeepStmt x.stmts → KeepBlock (roll-Block x)
    block_case x k = λ u fine.
        same_keep _ _ (eq.block_is store h (roll-Block x) u ∙ ap (λ (y : Block-F Else Stmt Block Branch). go_on (stmts store h (Some u) y.stmts) (λ w. Some (record w { names = store.leave u.names w.names }))) (out-roll-Block x))
        (keep_on (stmts store h (Some u) x.stmts) (λ w. Some (record w { names = store.leave u.names w.names })) (stmts_keep x.stmts k (Some u) fine) (λ w l. record { few = l.few; allowed = l.allowed }))

    -- the same, by the answer of its test
    choice_by : (o q : Option (Run E)) (b : Bool) → Keeps o → Keeps q → Keeps (if b then o else q)
    choice_by o q true = λ yes no. yes
    choice_by o q false = λ yes no. no

    -- the form keeps its effects such as they may be where its parts are
    branch_case : (x : Branch-F Else Stmt Block Branch) → KeepBlock x.body → KeepElse x.other → KeepBranch (roll-Branch x)
    branch_case x body other_one = λ u fine.
        same_keep _ _ (eq.branch_is store h (roll-Branch x) u ∙ ap (λ (y : Branch-F Else Stmt Block Branch). given store h y.test u (λ z v. if is_zero z then other store h y.other v else block store h y.body v)) (out-roll-Branch x))
        (given_keep x.test u (λ z v. if is_zero z then other store h x.other v else block store h x.body v) fine
        (λ z v k. choice_by (other store h x.other v) (block store h x.body v) (is_zero z) (other_one v k) (body v k)))

    -- the part keeps its effects such as they may be
    other_absent : KeepElse ev.Absent
    other_absent = λ u fine. same_keep _ _ (eq.other_absent store h u) fine

    -- the part keeps its effects such as they may be
    other_last : (x : Block) → KeepBlock x → KeepElse (ev.Last x)
    other_last x k = λ u fine. same_keep _ _ (eq.other_last store h x u) (k u fine)

    -- the part keeps its effects such as they may be
    other_further : (x : Branch) → KeepBranch x → KeepElse (ev.Further x)
    other_further x k = λ u fine. same_keep _ _ (eq.other_further store h x u) (spend_keep u (branch store h x) fine k)

    -- the part keeps its effects such as they may be
    stmt_keep : (x : Stmt) → ((v : Run E) → Fine v → Keeps (acts store h x v)) → KeepStmt x
    stmt_keep x k = λ u fine. same_keep _ _ (eq.stmt_is store h x u) (spend_keep u (acts store h x) fine k)

    -- the part keeps its effects such as they may be
    stmt_let : (name : Name) (e : Expr) → KeepStmt (sv.Let name e)
    stmt_let name e = stmt_keep (sv.Let name e) (λ u fine. same_keep _ _ (eq.acts_let store h name e u)
        (given_keep e u (λ z w. Some (record w { names = store.bind w.names name z })) fine (λ z w l. record { few = l.few; allowed = l.allowed })))

    -- the part keeps its effects such as they may be
    stmt_set : (name : Name) (e : Expr) → KeepStmt (sv.Set name e)
    stmt_set name e = stmt_keep (sv.Set name e) (λ u fine. same_keep _ _ (eq.acts_set store h name e u)
        (given_keep e u (λ z w. with_names w (store.set w.names name z)) fine (λ z w l. names_keep w (store.set w.names name z) l)))

    -- the part keeps its effects such as they may be
    stmt_set_item : (name : Name) (i e : Expr) → KeepStmt (sv.SetItem name i e)
    stmt_set_item name i e = stmt_keep (sv.SetItem name i e) (λ u fine. same_keep _ _ (eq.acts_set_item store h name i e u)
        (given_keep i u (λ at w. given store h e w (λ z x. with_names x (store.set_item x.names name at z))) fine
        (λ at w k. given_keep e w (λ z x. with_names x (store.set_item x.names name at z)) k (λ z x l. names_keep x (store.set_item x.names name at z) l))))

    -- the part keeps its effects such as they may be
    stmt_if : (x : Branch) → KeepBranch x → KeepStmt (sv.If x)
    stmt_if x k = stmt_keep (sv.If x) (λ u fine. same_keep _ _ (eq.acts_if store h x u) (k u fine))

    -- the part keeps its effects such as they may be
    stmt_for : (name : Name) (from to : Expr) (body : Block) → KeepBlock body → KeepStmt (sv.For name from to body)
    stmt_for name from to body k = stmt_keep (sv.For name from to body) (λ u fine. same_keep _ _ (eq.acts_for store h name from to body u)
        (given_keep from u (λ a w. given store h to w (λ b x. loop store h (suc x.left) (block store h body) name b a x)) fine
        (λ a w l. given_keep to w (λ b x. loop store h (suc x.left) (block store h body) name b a x) l (λ b x last. loop_keep (suc x.left) (block store h body) name b a k x last))))

    -- the part keeps its effects such as they may be
    stmt_each : (name : Name) (body : Block) → KeepBlock body → KeepStmt (sv.Each name body)
    stmt_each name body k = stmt_keep (sv.Each name body) (λ u fine. same_keep _ _ (eq.acts_each store h name body u) (turns_keep h.near (block store h body) name k u fine))

    -- the part keeps its effects such as they may be
    stmt_send : (to : Target) (list : Values) → KeepStmt (sv.Send to list)
    stmt_send to list = stmt_keep (sv.Send to list) (λ u fine. same_keep _ _ (eq.acts_send store h to list u) (send_keep to list.members u fine))

    -- the part keeps its effects such as they may be
    stmt_out : (list : Values) → KeepStmt (sv.Out list)
    stmt_out list = stmt_keep (sv.Out list) (λ u fine. same_keep _ _ (eq.acts_out store h list u)
        (list_keep list.members u (λ numbers w. with_effect w (Out numbers)) fine (λ numbers w l. effect_keep w (Out numbers) l tt)))

    -- a layer whose parts are known keeps its effects such as they may be
    else_layer : (y : Else-F (Known KeepElse) (Known KeepStmt) (Known KeepBlock) (Known KeepBranch)) → KeepElse (roll-Else (map-Else (Known KeepElse) (Known KeepStmt) (Known KeepBlock) (Known KeepBranch) Else Stmt Block Branch (λ q. q.0) (λ q. q.0) (λ q. q.0) (λ q. q.0) y))
    else_layer Else-F.Absent = subst KeepElse (sym ev.rolls-Absent) other_absent
    else_layer (Else-F.Last x) = subst KeepElse (sym (ev.rolls-Last x.0)) (other_last x.0 x.1)
    else_layer (Else-F.Further x) = subst KeepElse (sym (ev.rolls-Further x.0)) (other_further x.0 x.1)

    -- a layer whose parts are known keeps its effects such as they may be
    stmt_layer : (y : Stmt-F (Known KeepElse) (Known KeepStmt) (Known KeepBlock) (Known KeepBranch)) → KeepStmt (roll-Stmt (map-Stmt (Known KeepElse) (Known KeepStmt) (Known KeepBlock) (Known KeepBranch) Else Stmt Block Branch (λ q. q.0) (λ q. q.0) (λ q. q.0) (λ q. q.0) y))
    stmt_layer (Stmt-F.Let name e) = subst KeepStmt (sym (sv.rolls-Let name e)) (stmt_let name e)
    stmt_layer (Stmt-F.Set name e) = subst KeepStmt (sym (sv.rolls-Set name e)) (stmt_set name e)
    stmt_layer (Stmt-F.SetItem name i e) = subst KeepStmt (sym (sv.rolls-SetItem name i e)) (stmt_set_item name i e)
    stmt_layer (Stmt-F.If x) = subst KeepStmt (sym (sv.rolls-If x.0)) (stmt_if x.0 x.1)
    stmt_layer (Stmt-F.For name from to x) = subst KeepStmt (sym (sv.rolls-For name from to x.0)) (stmt_for name from to x.0 x.1)
    stmt_layer (Stmt-F.Each name x) = subst KeepStmt (sym (sv.rolls-Each name x.0)) (stmt_each name x.0 x.1)
    stmt_layer (Stmt-F.Send to list) = subst KeepStmt (sym (sv.rolls-Send to list)) (stmt_send to list)
    stmt_layer (Stmt-F.Out list) = subst KeepStmt (sym (sv.rolls-Out list)) (stmt_out list)

    -- a layer whose parts are known keeps its effects such as they may be
    block_layer : (y : Block-F (Known KeepElse) (Known KeepStmt) (Known KeepBlock) (Known KeepBranch)) → KeepBlock (roll-Block (map-Block (Known KeepElse) (Known KeepStmt) (Known KeepBlock) (Known KeepBranch) Else Stmt Block Branch (λ q. q.0) (λ q. q.0) (λ q. q.0) (λ q. q.0) y))
    block_layer y = block_case (map-Block (Known KeepElse) (Known KeepStmt) (Known KeepBlock) (Known KeepBranch) Else Stmt Block Branch (λ q. q.0) (λ q. q.0) (λ q. q.0) (λ q. q.0) y) (each_known KeepStmt y.stmts)

    -- a layer whose parts are known keeps its effects such as they may be
    branch_layer : (y : Branch-F (Known KeepElse) (Known KeepStmt) (Known KeepBlock) (Known KeepBranch)) → KeepBranch (roll-Branch (map-Branch (Known KeepElse) (Known KeepStmt) (Known KeepBlock) (Known KeepBranch) Else Stmt Block Branch (λ q. q.0) (λ q. q.0) (λ q. q.0) (λ q. q.0) y))
    branch_layer y = branch_case (map-Branch (Known KeepElse) (Known KeepStmt) (Known KeepBlock) (Known KeepBranch) Else Stmt Block Branch (λ q. q.0) (λ q. q.0) (λ q. q.0) (λ q. q.0) y) y.body.1 y.other.1

    -- a block keeps the effects such as they may be
    block_keep : (x : Block) → KeepBlock x
    block_keep = ind-Block KeepElse KeepStmt KeepBlock KeepBranch
        (λ x y is. subst (λ z. KeepElse (roll-Else z)) is (else_layer y))
        (λ x y is. subst (λ z. KeepStmt (roll-Stmt z)) is (stmt_layer y))
        (λ x y is. subst (λ z. KeepBlock (roll-Block z)) is (block_layer y))
        (λ x y is. subst (λ z. KeepBranch (roll-Branch z)) is (branch_layer y))

-- the same, by the answer of its test
near_by : {S : Type 0} (rules : Rules S) (me x : ℕ) (more : List ℕ) (b : Bool) → rules.linked me x ≡ b → AreNear rules me more → AreNear rules me (if b then x ∷ more else more)
near_by rules me x more true e k = (e, k)
near_by rules me x more false e k = k

-- the part keeps its effects such as they may be
near_are : {S : Type 0} (rules : Rules S) (me : ℕ) (hosts : List ℕ) → AreNear rules me (filter (rules.linked me) hosts)
near_are rules me [] = tt
near_are rules me (x ∷ more) = near_by rules me x (filter (rules.linked me) more) (rules.linked me x) refl (near_are rules me more)

-- the part keeps its effects such as they may be
left_keep : (m : Machine) (hosts : ℕ) (linked : ℕ → ℕ → Bool) (me : ℕ) (variables : Names) (state : List ℤ) (o : Option (Run Names)) → Keeps (machine_rules m hosts linked) me o
    → AreEffectsOf (machine_rules m hosts linked) me (left_by variables state o).1
left_keep m hosts linked me variables state None k = record { few = omega arith; allowed = all_none (IsEffectOf (machine_rules m hosts linked) me) }
left_keep m hosts linked me variables state (Some u) k = record { few = k.few; allowed = k.allowed }

-- the part keeps its effects such as they may be
handled_keep : (m : Machine) (hosts : ℕ) (linked : ℕ → ℕ → Bool) (me : ℕ) (from : Option ℕ) (payload : List ℤ) (variables : Names)
    → Keeps (machine_rules m hosts linked) me (handled m (here_at hosts linked me) from payload variables)
handled_keep m hosts linked me None payload variables =
    let rules = machine_rules m hosts linked in
    block_keep rules me by_name (here_at hosts linked me) (near_are rules me (range_with_len 0 hosts)) m.on_input.body _ (record { few = omega arith; allowed = all_none (IsEffectOf rules me) })
handled_keep m hosts linked me (Some from) payload variables =
    let rules = machine_rules m hosts linked in
    block_keep rules me by_name (here_at hosts linked me) (near_are rules me (range_with_len 0 hosts)) m.on_receive.body _ (record { few = omega arith; allowed = all_none (IsEffectOf rules me) })

-- the same, by the answer of its test
effects_by : (m : Machine) (hosts : ℕ) (linked : ℕ → ℕ → Bool) (me : ℕ) (state : List ℤ) (from : Option ℕ) (payload : List ℤ) (b : Bool)
    → AreEffectsOf (machine_rules m hosts linked) me (if b then left_by (variables_of m state) state (handled m (here_at hosts linked me) from payload (variables_of m state)) else (state, [])).1
effects_by m hosts linked me state from payload true = left_keep m hosts linked me (variables_of m state) state _ (handled_keep m hosts linked me from payload (variables_of m state))
effects_by m hosts linked me state from payload false = record { few = omega arith; allowed = all_none (IsEffectOf (machine_rules m hosts linked) me) }

-- the effects of a machine's step are allowed
pub machine_effects : (m : Machine) (hosts : ℕ) (linked : ℕ → ℕ → Bool) (h : ℕ) (state : List ℤ) (from : Option ℕ) (payload : List ℤ)
    → AreEffectsOf (machine_rules m hosts linked) h ((machine_rules m hosts linked).next h state from payload).1
unfolding next
machine_effects m hosts linked h state from payload = effects_by m hosts linked h state from payload (is_state m state)

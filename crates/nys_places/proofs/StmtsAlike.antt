-- Statements: by place they do what they do by name, for every tree that passes the rules of names.
use Rattle.std.proofs.Common.{◌≡◌, ℕ, zero, suc, ℤ, pos, ◌+ℤ◌, int_lt, Bool, true, false, ◌&&◌, nat_lt, if◌then◌else◌, List, [], ◌∷◌, ◌++◌, length, map, Option, Some, None, option_map, refl, ap, sym, ◌∙◌, subst}
use Rattle.std.proofs.lemmas.Bool.{and_parts}
use Rattle.std.proofs.lemmas.List.{append_assoc}
use Rattle.nys_source.specs.declared.effect.Effect.{Effect}
use Rattle.nys_source.specs.declared.effect.Effect.TheVariants.{Send, Out}
use Rattle.nys_tree.specs.declared.expr.Expr.{Expr}
use Rattle.nys_tree.specs.declared.name.Name.{Name}
use Rattle.nys_tree.specs.declared.stmt.Target.{Target}
use Rattle.nys_tree.specs.declared.stmt.Target.TheVariants.{All, Host}
use Rattle.nys_tree.specs.declared.stmt.Values.{Values}
use Rattle.nys_tree.specs.declared.stmt.Block.{Block, map-Block, roll-Block, out-roll-Block, ind-Block}
use Rattle.nys_tree.specs.declared.stmt.Branch.{Branch, map-Branch, roll-Branch, out-roll-Branch}
use Rattle.nys_tree.specs.declared.stmt.Else.{Else, map-Else, roll-Else}
use Rattle.nys_tree.specs.declared.stmt.Else.TheVariants as ev
use Rattle.nys_tree.specs.declared.stmt.Stmt.{Stmt, map-Stmt, roll-Stmt}
use Rattle.nys_tree.specs.declared.stmt.Stmt.TheVariants as sv
use Rattle.nys_tree.specs.declared.stmt.Else.TheOpen.{Else-F, Stmt-F, Block-F, Branch-F}
use Rattle.nys_tree.specs.Bindings.{Declared, Bindings, is_new, let_of, fixed_of}
use Rattle.nys_tree.specs.Named.{same_if, more_if, then_named, target_named, exprs_named, stmts_named, expr_named, stmt_named, block_named, branch_named, other_named}
use Rattle.nys_tree.proofs.NamedEquations as ne
use Rattle.nys_meaning.specs.declared.here.Here.{Here}
use Rattle.nys_source.specs.declared.effect.TheConstants.{MAX_EFFECTS}
use Rattle.nys_meaning.specs.Numbers.{is_zero}
use Rattle.nys_meaning.specs.Exprs.{go_on, unit, expr, numbers}
use Rattle.nys_meaning.specs.ByName.{Names, name_reads, by_name}
use Rattle.nys_meaning.specs.Stmts.{Run, Store, Doing, with_names, spend, with_effect, payload, neighbour, sends, given, listed, list_given, send_to, turn, loop, turns, stmt, block, branch, other, stmts}
use Rattle.nys_meaning.proofs.StmtEquations as eq
use Rattle.nys_places.specs.declared.cells.Cells.{Cells}
use Rattle.nys_places.specs.Cells.{place_reads, by_place, bind_at}
use Rattle.nys_places.specs.Layout.{names_of, run_of, IsStacked, HasAll}
use Rattle.nys_places.proofs.Writes.{set_is, set_item_is, set_has, set_item_has, new_stacked, bind_is, bind_has, leave_is, leave_has}
use Rattle.nys_places.proofs.ExprsAlike.{Each, Known, each_known, both_same, expr_alike}

-- both have a fault, or the run by name is that for which the run by place stands
abbrev pub Alike : Bindings → Option (Run Cells) → Option (Run Names) → Type 0
Alike s None None = Unit {0}
Alike s None (Some v) = ⊥
Alike s (Some u) None = ⊥
Alike s (Some u) (Some v) = (v ≡ run_of s u) × HasAll s u.names

-- the part is alike
alike_on : (s t : Bindings) (o : Option (Run Cells)) (q : Option (Run Names)) (f : Doing Cells) (g : Doing Names) → Alike s o q
    → ((u : Run Cells) → HasAll s u.names → Alike t (f u) (g (run_of s u))) → Alike t (go_on o f) (go_on q g)
alike_on s t None None f g a k = tt
alike_on s t None (Some v) f g a k = absurd a
alike_on s t (Some u) None f g a k = absurd a
alike_on s t (Some u) (Some v) f g a k = subst (λ x. Alike t (f u) (g x)) (sym a.0) (k u a.1)

-- the same, by the answer of its test
alike_by : (s : Bindings) (o o' : Option (Run Cells)) (q q' : Option (Run Names)) → o ≡ o' → q ≡ q' → Alike s o' q' → Alike s o q
alike_by s o o' q q' e f a = subst (λ x. Alike s x q) (sym e) (subst (λ x. Alike s o' x) (sym f) a)

-- one option goes on alike on both sides
one_option : {A : Type 0} (t : Bindings) (o : Option A) (f : A → Option (Run Cells)) (g : A → Option (Run Names)) → ((a : A) → Alike t (f a) (g a)) → Alike t (go_on o f) (go_on o g)
one_option t None f g k = tt
one_option t (Some a) f g k = k a

-- the part is alike
unit_alike : (t : Bindings) (n : ℕ) (f : ℕ → Option (Run Cells)) (g : ℕ → Option (Run Names)) → ((i : ℕ) → Alike t (f i) (g i)) → Alike t (unit n f) (unit n g)
unit_alike t zero f g k = tt
unit_alike t (suc n) f g k = k n

-- a unit is taken alike
spend_alike : (s t : Bindings) (u : Run Cells) (f : Doing Cells) (g : Doing Names) → HasAll s u.names
    → ((v : Run Cells) → HasAll s v.names → Alike t (f v) (g (run_of s v))) → Alike t (spend u f) (spend (run_of s u) g)
spend_alike s t u f g has k = unit_alike t u.left _ _ (λ i. k (record u { left = i }) has)

-- the part is alike
with_names_alike : (s : Bindings) (u : Run Cells) (o : Option Cells) (q : Option Names) → q ≡ option_map (names_of s) o → ((p : Cells) → o ≡ Some p → HasAll s p)
    → Alike s (with_names u o) (with_names (run_of s u) q)
with_names_alike s u None q e k = subst (λ x. Alike s (with_names u None) (with_names (run_of s u) x)) (sym e) tt
with_names_alike s u (Some p) q e k = subst (λ x. Alike s (with_names u (Some p)) (with_names (run_of s u) x)) (sym e) (refl, k p refl)

-- the same, by the answer of its test
effect_by : (s : Bindings) (u : Run Cells) (effect : Effect) (b : Bool) → HasAll s u.names
    → Alike s (if b then Some (record u { effects = u.effects ++ effect ∷ [] }) else None) (if b then Some (record (run_of s u) { effects = u.effects ++ effect ∷ [] }) else None)
effect_by s u effect true has = (refl, has)
effect_by s u effect false has = tt

-- the part is alike
effect_alike : (s : Bindings) (u : Run Cells) (effect : Effect) → HasAll s u.names → Alike s (with_effect u effect) (with_effect (run_of s u) effect)
effect_alike s u effect has = effect_by s u effect (nat_lt (length u.effects) MAX_EFFECTS) has

-- the part is alike
sends_alike : (s : Bindings) (numbers : List ℤ) (near : List ℕ) (u : Run Cells) → HasAll s u.names → Alike s (sends numbers near u) (sends numbers near (run_of s u))
sends_alike s numbers [] u has = (refl, has)
sends_alike s numbers (q ∷ more) u has = alike_on s s (with_effect u (Send q numbers)) (with_effect (run_of s u) (Send q numbers)) (sends numbers more) (sends numbers more) (effect_alike s u (Send q numbers) has) (sends_alike s numbers more)

-- what is seen behind a statement is stacked, and more than what was seen before it
pub record Behind (s t : Bindings) : Type 0 where
  pub stacked : IsStacked t
  pub own : Bindings
  pub grown : t ≡ own ++ s

-- the part is alike
same_from : (b : Bool) (s t : Bindings) → same_if b s ≡ Some t → (b ≡ true) × (t ≡ s)
same_from true s t e = (refl, cc)
same_from false s t e = let no : None ≡ Some t = e in cc

-- the part is alike
pub more_from : (b : Bool) (d : Declared) (s t : Bindings) → more_if b d s ≡ Some t → (b ≡ true) × (t ≡ d ∷ s)
more_from true d s t e = (refl, cc)
more_from false d s t e = let no : None ≡ Some t = e in cc

-- the part is alike
behind_same : (s : Bindings) → IsStacked s → Behind s s
behind_same s st = record { stacked = st; own = []; grown = refl }

module _ (h : Here) where
  abbrev pub SameStmt : Stmt → Type 0
  SameStmt x = (s t : Bindings) → IsStacked s → stmt_named x s ≡ Some t → Behind s t × ((u : Run Cells) → HasAll s u.names → Alike t (stmt by_place h x u) (stmt by_name h x (run_of s u)))

  -- the part is alike
  abbrev pub SameBlock : Block → Type 0
  SameBlock x = (s : Bindings) → IsStacked s → block_named x s ≡ true → (u : Run Cells) → HasAll s u.names → Alike s (block by_place h x u) (block by_name h x (run_of s u))

  -- the part is alike
  abbrev pub SameBranch : Branch → Type 0
  SameBranch x = (s : Bindings) → IsStacked s → branch_named x s ≡ true → (u : Run Cells) → HasAll s u.names → Alike s (branch by_place h x u) (branch by_name h x (run_of s u))

  -- the part is alike
  abbrev pub SameElse : Else → Type 0
  SameElse x = (s : Bindings) → IsStacked s → other_named x s ≡ true → (u : Run Cells) → HasAll s u.names → Alike s (other by_place h x u) (other by_name h x (run_of s u))

  -- an expression is evaluated alike
  given_alike : (s t : Bindings) (e : Expr) (u : Run Cells) (f : ℤ → Doing Cells) (g : ℤ → Doing Names) → IsStacked s → expr_named e s ≡ true → HasAll s u.names
      → ((z : ℤ) (v : Run Cells) → HasAll s v.names → Alike t (f z v) (g z (run_of s v))) → Alike t (given by_place h e u f) (given by_name h e (run_of s u) g)
  given_alike s t e u f g st ok has k =
      subst (λ o. Alike t (given by_place h e u f) (go_on o (λ x. g x.number (record (run_of s u) { left = x.left })))) (expr_alike h e s st ok u.names has u.left)
      (one_option t (expr place_reads h e u.names u.left) _ _ (λ x. k x.number (record u { left = x.left }) has))

  -- the part is alike
  numbers_alike : (s : Bindings) (members : List Expr) (so_far : List ℤ) (p : Cells) (n : ℕ) → IsStacked s → exprs_named members s ≡ true → HasAll s p
      → numbers place_reads h members so_far p n ≡ numbers name_reads h members so_far (names_of s p) n
  numbers_alike s [] so_far p n st ok has = refl
  numbers_alike s (e ∷ more) so_far p n st ok has =
      let parts = and_parts _ _ ok in
      both_same _ _ _ _ (expr_alike h e s st parts.0 p has n) (λ x. numbers_alike s more (so_far ++ x.number ∷ []) p x.left st parts.1 has)

  -- the part is alike
  list_given_alike : (s t : Bindings) (members : List Expr) (u : Run Cells) (f : List ℤ → Doing Cells) (g : List ℤ → Doing Names) → IsStacked s → exprs_named members s ≡ true → HasAll s u.names
      → ((zs : List ℤ) (v : Run Cells) → HasAll s v.names → Alike t (f zs v) (g zs (run_of s v))) → Alike t (list_given by_place h members u f) (list_given by_name h members (run_of s u) g)
  list_given_alike s t members u f g st ok has k =
      subst (λ o. Alike t (list_given by_place h members u f) (go_on (go_on o payload) (λ l. g l.numbers (record (run_of s u) { left = l.left }))))
      (numbers_alike s members [] u.names u.left st ok has)
      (one_option t (listed by_place h members u) (λ l. f l.numbers (record u { left = l.left })) (λ l. g l.numbers (record (run_of s u) { left = l.left }))
      (λ l. k l.numbers (record u { left = l.left }) has))

  -- the part is alike
  send_to_alike : (s : Bindings) (to : Target) (members : List Expr) (u : Run Cells) → IsStacked s → target_named to s ≡ true → exprs_named members s ≡ true → HasAll s u.names
      → Alike s (send_to by_place h to members u) (send_to by_name h to members (run_of s u))
  send_to_alike s All members u st to ok has = list_given_alike s s members u (λ numbers. sends numbers h.near) (λ numbers. sends numbers h.near) st ok has (λ numbers v inner. sends_alike s numbers h.near v inner)
  send_to_alike s (Host e) members u st to ok has =
      given_alike s s e u (λ z v. list_given by_place h members v (λ numbers w. go_on (neighbour h z) (λ q. with_effect w (Send q numbers)))) (λ z v. list_given by_name h members v (λ numbers w. go_on (neighbour h z) (λ q. with_effect w (Send q numbers)))) st to has
      (λ z v inner. list_given_alike s s members v (λ numbers w. go_on (neighbour h z) (λ q. with_effect w (Send q numbers))) (λ numbers w. go_on (neighbour h z) (λ q. with_effect w (Send q numbers))) st ok inner
      (λ numbers w last. one_option s (neighbour h z) (λ q. with_effect w (Send q numbers)) (λ q. with_effect (run_of s w) (Send q numbers)) (λ q. effect_alike s w (Send q numbers) last)))

  -- a body with a name of its own
  abbrev SameBody : Bindings → Name → Doing Cells → Doing Names → Type 0
  SameBody s name f g = (v : Run Cells) → HasAll (fixed_of name ∷ s) v.names → Alike (fixed_of name ∷ s) (f v) (g (run_of (fixed_of name ∷ s) v))

  -- the part is alike
  turn_alike : (s : Bindings) (name : Name) (f : Doing Cells) (g : Doing Names) → IsStacked s → is_new 1 s name ≡ true → SameBody s name f g
      → (z : ℤ) (u : Run Cells) → HasAll s u.names → Alike s (turn by_place h f name z u) (turn by_name h g name z (run_of s u))
  turn_alike s name f g st fresh body z u has = spend_alike s s u (λ v. go_on (f (record v { names = by_place.bind v.names name z })) (λ w. Some (record w { names = by_place.leave v.names w.names }))) (λ v. go_on (g (record v { names = by_name.bind v.names name z })) (λ w. Some (record w { names = by_name.leave v.names w.names }))) has (λ v inner.
      let start : Run Cells = record v { names = bind_at v.names name z } in
      let bound = bind_is s v.names name z true st inner fresh in
      let named = bind_has s v.names name z true inner fresh in
      alike_on (fixed_of name ∷ s) s (f start) (g (record (run_of s v) { names = by_name.bind (names_of s v.names) name z }))
      (λ w. Some (record w { names = by_place.leave v.names w.names })) (λ w. Some (record w { names = by_name.leave (names_of s v.names) w.names }))
      (subst (λ m. Alike (fixed_of name ∷ s) (f start) (g (record (run_of s v) { names = m }))) (sym bound) (body start named))
      (λ w last. (ap (λ (m : Names). record (run_of s w) { names = m }) (leave_is (fixed_of name ∷ []) s v.names w.names), leave_has (fixed_of name ∷ []) s w.names (new_stacked s name true st fresh) last)))

  -- the same, by the answer of its test
  loop_by : (s : Bindings) (f : Doing Cells) (g : Doing Names) (name : Name) (z : ℤ) (u : Run Cells) (more : Doing Cells) (rest : Doing Names) (b : Bool) → HasAll s u.names
      → Alike s (turn by_place h f name z u) (turn by_name h g name z (run_of s u))
      → ((v : Run Cells) → HasAll s v.names → Alike s (more v) (rest (run_of s v)))
      → Alike s (if b then go_on (turn by_place h f name z u) more else Some u) (if b then go_on (turn by_name h g name z (run_of s u)) rest else Some (run_of s u))
  loop_by s f g name z u more rest true has one k = alike_on s s _ _ more rest one k
  loop_by s f g name z u more rest false has one k = (refl, has)

  -- the part is alike
  loop_alike : (s : Bindings) (name : Name) (f : Doing Cells) (g : Doing Names) → IsStacked s → is_new 1 s name ≡ true → SameBody s name f g
      → (n : ℕ) (to z : ℤ) (u : Run Cells) → HasAll s u.names → Alike s (loop by_place h n f name to z u) (loop by_name h n g name to z (run_of s u))
  unfolding loop
  loop_alike s name f g st fresh body zero to z u has = tt
  loop_alike s name f g st fresh body (suc n) to z u has =
      loop_by s f g name z u (loop by_place h n f name to (z +ℤ pos 1)) (loop by_name h n g name to (z +ℤ pos 1)) (int_lt z to) has
      (turn_alike s name f g st fresh body z u has) (loop_alike s name f g st fresh body n to (z +ℤ pos 1))

  -- the part is alike
  turns_alike : (s : Bindings) (name : Name) (f : Doing Cells) (g : Doing Names) → IsStacked s → is_new 1 s name ≡ true → SameBody s name f g
      → (near : List ℕ) (u : Run Cells) → HasAll s u.names → Alike s (turns by_place h f name near u) (turns by_name h g name near (run_of s u))
  turns_alike s name f g st fresh body [] u has = (refl, has)
  turns_alike s name f g st fresh body (q ∷ more) u has =
      alike_on s s (turn by_place h f name (pos q) u) (turn by_name h g name (pos q) (run_of s u)) (turns by_place h f name more) (turns by_name h g name more) (turn_alike s name f g st fresh body (pos q) u has) (turns_alike s name f g st fresh body more)

  -- what is seen behind statements, and what they do
  record After (s : Bindings) (xs : List Stmt) : Type 0 where
    pub last : Bindings
    pub behind : Behind s last
    pub does : (u : Run Cells) → HasAll s u.names → Alike last (stmts by_place h (Some u) xs) (stmts by_name h (Some (run_of s u)) xs)

  -- the part is alike
  from_alike : (s t : Bindings) (more : List Stmt) (o : Option (Run Cells)) (q : Option (Run Names)) → Alike s o q
      → ((u : Run Cells) → HasAll s u.names → Alike t (stmts by_place h (Some u) more) (stmts by_name h (Some (run_of s u)) more)) → Alike t (stmts by_place h o more) (stmts by_name h q more)
  from_alike s t more None None a k = tt
  from_alike s t more None (Some v) a k = absurd a
  from_alike s t more (Some u) None a k = absurd a
  from_alike s t more (Some u) (Some v) a k = subst (λ x. Alike t (stmts by_place h (Some u) more) (stmts by_name h (Some x) more)) (sym a.0) (k u a.1)

  -- the part is alike
  behind_both : (s t v : Bindings) → Behind s t → Behind t v → Behind s v
  behind_both s t v a b = record { stacked = b.stacked; own = b.own ++ a.own; grown = b.grown ∙ (ap (λ x. b.own ++ x) a.grown ∙ sym (append_assoc b.own a.own s)) }

  -- the same, by the answer of its test
  after_by : (s : Bindings) (x : Stmt) (more : List Stmt) (o : Option Bindings) → stmt_named x s ≡ o → IsStacked s → SameStmt x
      → ((t : Bindings) → IsStacked t → stmts_named (map stmt_named more) t ≡ true → After t more) → then_named o (stmts_named (map stmt_named more)) ≡ true → After s (x ∷ more)
  after_by s x more None e st k rest ok = let no : false ≡ true = ok in cc
  after_by s x more (Some t) e st k rest ok =
      let one = k s t st e in
      let later = rest t one.0.stacked ok in
      record {
        last = later.last;
        behind = behind_both s t later.last one.0 later.behind;
        does = λ u has. from_alike t later.last more (stmt by_place h x u) (stmt by_name h x (run_of s u)) (one.1 u has) later.does;
      }

  -- the part is alike
  after : (xs : List Stmt) → Each SameStmt xs → (s : Bindings) → IsStacked s → stmts_named (map stmt_named xs) s ≡ true → After s xs
  after [] k s st ok = record { last = s; behind = behind_same s st; does = λ u has. (refl, has) }
  after (x ∷ more) k s st ok = after_by s x more (stmt_named x s) refl st k.0 (after more k.1) ok

  -- the part is alike
  leave_alike : (own s t : Bindings) (u : Run Cells) (o : Option (Run Cells)) (q : Option (Run Names)) → t ≡ own ++ s → IsStacked t → Alike t o q
      → Alike s (go_on o (λ (w : Run Cells). Some (record w { names = by_place.leave u.names w.names }))) (go_on q (λ (w : Run Names). Some (record w { names = by_name.leave (names_of s u.names) w.names })))
  leave_alike own s t u o q e st a =
      let st2 : IsStacked (own ++ s) = subst IsStacked e st in
      let a2 : Alike (own ++ s) o q = subst (λ (x : Bindings). Alike x o q) e a in
      alike_on (own ++ s) s o q (λ w. Some (record w { names = by_place.leave u.names w.names })) (λ w. Some (record w { names = by_name.leave (names_of s u.names) w.names })) a2 (λ w has.
      (ap (λ (m : Names). record (run_of s w) { names = m }) (leave_is own s u.names w.names), leave_has own s w.names st2 has))

  -- the equation of the form at its layer
  block_at : {E : Type 0} (store : Store E) (x : Block-F Else Stmt Block Branch) (u : Run E) → block store h (roll-Block x) u ≡ go_on (stmts store h (Some u) x.stmts) (λ w. Some (record w { names = store.leave u.names w.names }))
  block_at store x u = eq.block_is store h (roll-Block x) u ∙ ap (λ (y : Block-F Else Stmt Block Branch). go_on (stmts store h (Some u) y.stmts) (λ w. Some (record w { names = store.leave u.names w.names }))) (out-roll-Block x)

  -- the form is alike where its parts are
  block_case : (x : Block-F Else Stmt Block Branch) → Each SameStmt x.stmts → SameBlock (roll-Block x)
  block_case x k = λ s st ok u has.
      let named = sym (ne.block_is (roll-Block x) s ∙ ap (λ (y : Block-F Else Stmt Block Branch). stmts_named (map stmt_named y.stmts) s) (out-roll-Block x)) ∙ ok in
      let later = after x.stmts k s st named in
      alike_by s _ _ _ _ (block_at by_place x u) (block_at by_name x (run_of s u))
      (leave_alike later.behind.own s later.last u _ _ later.behind.grown later.behind.stacked (later.does u has))

  -- the equation of the form at its layer
  branch_at : {E : Type 0} (store : Store E) (x : Branch-F Else Stmt Block Branch) (u : Run E) → branch store h (roll-Branch x) u ≡ given store h x.test u (λ z v. if is_zero z then other store h x.other v else block store h x.body v)
  branch_at store x u = eq.branch_is store h (roll-Branch x) u ∙ ap (λ (y : Branch-F Else Stmt Block Branch). given store h y.test u (λ z v. if is_zero z then other store h y.other v else block store h y.body v)) (out-roll-Branch x)

  -- the same, by the answer of its test
  choice_by : (s : Bindings) (o p : Option (Run Cells)) (q r : Option (Run Names)) (b : Bool) → Alike s o q → Alike s p r → Alike s (if b then o else p) (if b then q else r)
  choice_by s o p q r true = λ yes no. yes
  choice_by s o p q r false = λ yes no. no

  -- the form is alike where its parts are
  branch_case : (x : Branch-F Else Stmt Block Branch) → SameBlock x.body → SameElse x.other → SameBranch (roll-Branch x)
  branch_case x body other_one = λ s st ok u has.
      let named = sym (ne.branch_is (roll-Branch x) s ∙ ap (λ (y : Branch-F Else Stmt Block Branch). expr_named y.test s && (block_named y.body s && other_named y.other s)) (out-roll-Branch x)) ∙ ok in
      let parts = and_parts _ _ named in let two = and_parts _ _ parts.1 in
      alike_by s _ _ _ _ (branch_at by_place x u) (branch_at by_name x (run_of s u))
      (given_alike s s x.test u (λ z v. if is_zero z then other by_place h x.other v else block by_place h x.body v) (λ z v. if is_zero z then other by_name h x.other v else block by_name h x.body v) st parts.0 has
      (λ z v inner. choice_by s (other by_place h x.other v) (block by_place h x.body v) (other by_name h x.other (run_of s v)) (block by_name h x.body (run_of s v)) (is_zero z) (other_one s st two.1 v inner) (body s st two.0 v inner)))

  -- the part is alike
  other_absent : SameElse ev.Absent
  other_absent = λ s st ok u has. alike_by s _ _ _ _ (eq.other_absent by_place h u) (eq.other_absent by_name h (run_of s u)) (refl, has)

  -- the part is alike
  other_last : (x : Block) → SameBlock x → SameElse (ev.Last x)
  other_last x k = λ s st ok u has. alike_by s _ _ _ _ (eq.other_last by_place h x u) (eq.other_last by_name h x (run_of s u)) (k s st (sym (ne.other_last x s) ∙ ok) u has)

  -- the part is alike
  other_further : (x : Branch) → SameBranch x → SameElse (ev.Further x)
  other_further x k = λ s st ok u has. alike_by s _ _ _ _ (eq.other_further by_place h x u) (eq.other_further by_name h x (run_of s u))
      (spend_alike s s u (branch by_place h x) (branch by_name h x) has (λ v inner. k s st (sym (ne.other_further x s) ∙ ok) v inner))

  -- a statement that declares nothing
  plain : (x : Stmt) (b : Bool) (s t : Bindings) → IsStacked s → same_if b s ≡ Some t
      → (b ≡ true → (u : Run Cells) → HasAll s u.names → Alike s (stmt by_place h x u) (stmt by_name h x (run_of s u)))
      → Behind s t × ((u : Run Cells) → HasAll s u.names → Alike t (stmt by_place h x u) (stmt by_name h x (run_of s u)))
  plain x b s t st e k =
      let from = same_from b s t e in
      let P : Bindings → Type 0 = λ y. Behind s y × ((u : Run Cells) → HasAll s u.names → Alike y (stmt by_place h x u) (stmt by_name h x (run_of s u))) in
      subst P (sym from.1) (behind_same s st, k from.0)

  -- the part is alike
  stmt_let : (name : Name) (e : Expr) → SameStmt (sv.Let name e)
  stmt_let name e = λ s t st ok.
      let from = more_from _ (let_of name) s t (sym (ne.stmt_let name e s) ∙ ok) in
      let parts = and_parts _ _ from.0 in
      let x = sv.Let name e in
      let P : Bindings → Type 0 = λ y. Behind s y × ((u : Run Cells) → HasAll s u.names → Alike y (stmt by_place h x u) (stmt by_name h x (run_of s u))) in
      subst P (sym from.1) (
        record { stacked = new_stacked s name false st parts.0; own = let_of name ∷ []; grown = refl },
        λ u has. alike_by (let_of name ∷ s) _ _ _ _ (eq.stmt_let by_place h name e u) (eq.stmt_let by_name h name e (run_of s u))
            (spend_alike s (let_of name ∷ s) u (λ v. given by_place h e v (λ z w. Some (record w { names = by_place.bind w.names name z }))) (λ v. given by_name h e v (λ z w. Some (record w { names = by_name.bind w.names name z }))) has (λ v inner.
            given_alike s (let_of name ∷ s) e v (λ z w. Some (record w { names = by_place.bind w.names name z })) (λ z w. Some (record w { names = by_name.bind w.names name z })) st parts.1 inner (λ z w last.
            (ap (λ (m : Names). record (run_of s w) { names = m }) (bind_is s w.names name z false st last parts.0), bind_has s w.names name z false last parts.0)))),
      )

  -- the part is alike
  stmt_set : (name : Name) (e : Expr) → SameStmt (sv.Set name e)
  stmt_set name e = λ s t st ok. plain (sv.Set name e) _ s t st (sym (ne.stmt_set name e s) ∙ ok) (λ b u has.
      let parts = and_parts _ _ b in let two = and_parts _ _ parts.1 in
      alike_by s _ _ _ _ (eq.stmt_set by_place h name e u) (eq.stmt_set by_name h name e (run_of s u))
      (spend_alike s s u (λ v. given by_place h e v (λ z w. with_names w (by_place.set w.names name z))) (λ v. given by_name h e v (λ z w. with_names w (by_name.set w.names name z))) has (λ v inner. given_alike s s e v (λ z w. with_names w (by_place.set w.names name z)) (λ z w. with_names w (by_name.set w.names name z)) st two.1 inner (λ z w last.
      with_names_alike s w (by_place.set w.names name z) (by_name.set (names_of s w.names) name z) (set_is s w.names name z st last parts.0) (λ p f. set_has s w.names p name z last f)))))

  -- the part is alike
  stmt_set_item : (name : Name) (i e : Expr) → SameStmt (sv.SetItem name i e)
  stmt_set_item name i e = λ s t st ok. plain (sv.SetItem name i e) _ s t st (sym (ne.stmt_set_item name i e s) ∙ ok) (λ b u has.
      let parts = and_parts _ _ b in let two = and_parts _ _ parts.1 in let three = and_parts _ _ two.1 in
      alike_by s _ _ _ _ (eq.stmt_set_item by_place h name i e u) (eq.stmt_set_item by_name h name i e (run_of s u))
      (spend_alike s s u (λ v. given by_place h i v (λ at w. given by_place h e w (λ z x. with_names x (by_place.set_item x.names name at z)))) (λ v. given by_name h i v (λ at w. given by_name h e w (λ z x. with_names x (by_name.set_item x.names name at z)))) has (λ v inner.
      given_alike s s i v (λ at w. given by_place h e w (λ z x. with_names x (by_place.set_item x.names name at z))) (λ at w. given by_name h e w (λ z x. with_names x (by_name.set_item x.names name at z))) st three.0 inner (λ at w next. given_alike s s e w (λ z x. with_names x (by_place.set_item x.names name at z)) (λ z x. with_names x (by_name.set_item x.names name at z)) st three.1 next (λ z x last.
      with_names_alike s x (by_place.set_item x.names name at z) (by_name.set_item (names_of s x.names) name at z) (set_item_is s x.names name at z st last parts.0 two.0) (λ p f. set_item_has s x.names p name at z last f))))))

  -- the part is alike
  stmt_if : (x : Branch) → SameBranch x → SameStmt (sv.If x)
  stmt_if x k = λ s t st ok. plain (sv.If x) _ s t st (sym (ne.stmt_if x s) ∙ ok) (λ b u has.
      alike_by s _ _ _ _ (eq.stmt_if by_place h x u) (eq.stmt_if by_name h x (run_of s u)) (spend_alike s s u (branch by_place h x) (branch by_name h x) has (k s st b)))

  -- the part is alike
  stmt_for : (name : Name) (from to : Expr) (body : Block) → SameBlock body → SameStmt (sv.For name from to body)
  stmt_for name from to body k = λ s t st ok. plain (sv.For name from to body) _ s t st (sym (ne.stmt_for name from to body s) ∙ ok) (λ b u has.
      let parts = and_parts _ _ b in let two = and_parts _ _ parts.1 in let three = and_parts _ _ two.1 in
      alike_by s _ _ _ _ (eq.stmt_for by_place h name from to body u) (eq.stmt_for by_name h name from to body (run_of s u))
      (spend_alike s s u (λ v. given by_place h from v (λ a w. given by_place h to w (λ c x. loop by_place h (suc x.left) (block by_place h body) name c a x))) (λ v. given by_name h from v (λ a w. given by_name h to w (λ c x. loop by_name h (suc x.left) (block by_name h body) name c a x))) has (λ v inner.
      given_alike s s from v (λ a w. given by_place h to w (λ c x. loop by_place h (suc x.left) (block by_place h body) name c a x)) (λ a w. given by_name h to w (λ c x. loop by_name h (suc x.left) (block by_name h body) name c a x)) st two.0 inner (λ x w next. given_alike s s to w (λ c y. loop by_place h (suc y.left) (block by_place h body) name c x y) (λ c y. loop by_name h (suc y.left) (block by_name h body) name c x y) st three.0 next (λ y z last.
      loop_alike s name (block by_place h body) (block by_name h body) st parts.0 (k (fixed_of name ∷ s) (new_stacked s name true st parts.0) three.1) (suc z.left) y x z last)))))

  -- the part is alike
  stmt_each : (name : Name) (body : Block) → SameBlock body → SameStmt (sv.Each name body)
  stmt_each name body k = λ s t st ok. plain (sv.Each name body) _ s t st (sym (ne.stmt_each name body s) ∙ ok) (λ b u has.
      let parts = and_parts _ _ b in
      alike_by s _ _ _ _ (eq.stmt_each by_place h name body u) (eq.stmt_each by_name h name body (run_of s u))
      (spend_alike s s u (turns by_place h (block by_place h body) name h.near) (turns by_name h (block by_name h body) name h.near) has (turns_alike s name (block by_place h body) (block by_name h body) st parts.0 (k (fixed_of name ∷ s) (new_stacked s name true st parts.0) parts.1) h.near)))

  -- the part is alike
  stmt_send : (to : Target) (list : Values) → SameStmt (sv.Send to list)
  stmt_send to list = λ s t st ok. plain (sv.Send to list) _ s t st (sym (ne.stmt_send to list s) ∙ ok) (λ b u has.
      let parts = and_parts _ _ b in
      alike_by s _ _ _ _ (eq.stmt_send by_place h to list u) (eq.stmt_send by_name h to list (run_of s u))
      (spend_alike s s u (send_to by_place h to list.members) (send_to by_name h to list.members) has (λ v inner. send_to_alike s to list.members v st parts.0 parts.1 inner)))

  -- the part is alike
  stmt_out : (list : Values) → SameStmt (sv.Out list)
  stmt_out list = λ s t st ok. plain (sv.Out list) _ s t st (sym (ne.stmt_out list s) ∙ ok) (λ b u has.
      alike_by s _ _ _ _ (eq.stmt_out by_place h list u) (eq.stmt_out by_name h list (run_of s u))
      (spend_alike s s u (λ v. list_given by_place h list.members v (λ numbers w. with_effect w (Out numbers))) (λ v. list_given by_name h list.members v (λ numbers w. with_effect w (Out numbers))) has (λ v inner. list_given_alike s s list.members v (λ numbers w. with_effect w (Out numbers)) (λ numbers w. with_effect w (Out numbers)) st b inner (λ numbers x last. effect_alike s x (Out numbers) last))))

  -- a layer whose parts are known is alike
  else_layer : (y : Else-F (Known SameElse) (Known SameStmt) (Known SameBlock) (Known SameBranch)) → SameElse (roll-Else (map-Else (Known SameElse) (Known SameStmt) (Known SameBlock) (Known SameBranch) Else Stmt Block Branch (λ q. q.0) (λ q. q.0) (λ q. q.0) (λ q. q.0) y))
  else_layer Else-F.Absent = subst SameElse (sym ev.rolls-Absent) other_absent
  else_layer (Else-F.Last x) = subst SameElse (sym (ev.rolls-Last x.0)) (other_last x.0 x.1)
  else_layer (Else-F.Further x) = subst SameElse (sym (ev.rolls-Further x.0)) (other_further x.0 x.1)

  -- a layer whose parts are known is alike
  stmt_layer : (y : Stmt-F (Known SameElse) (Known SameStmt) (Known SameBlock) (Known SameBranch)) → SameStmt (roll-Stmt (map-Stmt (Known SameElse) (Known SameStmt) (Known SameBlock) (Known SameBranch) Else Stmt Block Branch (λ q. q.0) (λ q. q.0) (λ q. q.0) (λ q. q.0) y))
  stmt_layer (Stmt-F.Let name e) = subst SameStmt (sym (sv.rolls-Let name e)) (stmt_let name e)
  stmt_layer (Stmt-F.Set name e) = subst SameStmt (sym (sv.rolls-Set name e)) (stmt_set name e)
  stmt_layer (Stmt-F.SetItem name i e) = subst SameStmt (sym (sv.rolls-SetItem name i e)) (stmt_set_item name i e)
  stmt_layer (Stmt-F.If x) = subst SameStmt (sym (sv.rolls-If x.0)) (stmt_if x.0 x.1)
  stmt_layer (Stmt-F.For name from to x) = subst SameStmt (sym (sv.rolls-For name from to x.0)) (stmt_for name from to x.0 x.1)
  stmt_layer (Stmt-F.Each name x) = subst SameStmt (sym (sv.rolls-Each name x.0)) (stmt_each name x.0 x.1)
  stmt_layer (Stmt-F.Send to list) = subst SameStmt (sym (sv.rolls-Send to list)) (stmt_send to list)
  stmt_layer (Stmt-F.Out list) = subst SameStmt (sym (sv.rolls-Out list)) (stmt_out list)

  -- a layer whose parts are known is alike
  block_layer : (y : Block-F (Known SameElse) (Known SameStmt) (Known SameBlock) (Known SameBranch)) → SameBlock (roll-Block (map-Block (Known SameElse) (Known SameStmt) (Known SameBlock) (Known SameBranch) Else Stmt Block Branch (λ q. q.0) (λ q. q.0) (λ q. q.0) (λ q. q.0) y))
  block_layer y = block_case (map-Block (Known SameElse) (Known SameStmt) (Known SameBlock) (Known SameBranch) Else Stmt Block Branch (λ q. q.0) (λ q. q.0) (λ q. q.0) (λ q. q.0) y) (each_known SameStmt y.stmts)

  -- a layer whose parts are known is alike
  branch_layer : (y : Branch-F (Known SameElse) (Known SameStmt) (Known SameBlock) (Known SameBranch)) → SameBranch (roll-Branch (map-Branch (Known SameElse) (Known SameStmt) (Known SameBlock) (Known SameBranch) Else Stmt Block Branch (λ q. q.0) (λ q. q.0) (λ q. q.0) (λ q. q.0) y))
  branch_layer y = branch_case (map-Branch (Known SameElse) (Known SameStmt) (Known SameBlock) (Known SameBranch) Else Stmt Block Branch (λ q. q.0) (λ q. q.0) (λ q. q.0) (λ q. q.0) y) y.body.1 y.other.1

  -- by place a block does what it does by name
  pub block_alike : (x : Block) → SameBlock x
  block_alike = ind-Block SameElse SameStmt SameBlock SameBranch
      (λ x y is. subst (λ z. SameElse (roll-Else z)) is (else_layer y))
      (λ x y is. subst (λ z. SameStmt (roll-Stmt z)) is (stmt_layer y))
      (λ x y is. subst (λ z. SameBlock (roll-Block z)) is (block_layer y))
      (λ x y is. subst (λ z. SameBranch (roll-Branch z)) is (branch_layer y))

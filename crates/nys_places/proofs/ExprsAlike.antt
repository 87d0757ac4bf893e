-- Expressions: by place they give what they give by name, for every tree that passes the rules of names.
use Rattle.std.proofs.Common.{◌≡◌, ℕ, zero, suc, ℤ, pos, cond, true, ◌&&◌, List, [], ◌∷◌, map, Option, Some, None, refl, ap, sym, ◌∙◌, subst}
use Rattle.std.proofs.lemmas.Bool.{and_parts}
use Rattle.nys_tree.specs.declared.expr.Compare.{Compare}
use Rattle.nys_tree.specs.declared.name.Name.{Name}
use Rattle.nys_tree.specs.declared.expr.Factor.{Factor, map-Factor, roll-Factor}
use Rattle.nys_tree.specs.declared.expr.Neg.{Neg, map-Neg, roll-Neg}
use Rattle.nys_tree.specs.declared.expr.Both.{Both, map-Both, roll-Both, out-roll-Both}
use Rattle.nys_tree.specs.declared.expr.Expr.{Expr, map-Expr, roll-Expr, out-roll-Expr, ind-Expr}
use Rattle.nys_tree.specs.declared.expr.Sum.{Sum, map-Sum, roll-Sum, out-roll-Sum}
use Rattle.nys_tree.specs.declared.expr.Tail.{Tail, map-Tail, roll-Tail, out-roll-Tail}
use Rattle.nys_tree.specs.declared.expr.Term.{Term, map-Term, roll-Term, out-roll-Term}
use Rattle.nys_tree.specs.declared.expr.TermTail.{TermTail, map-TermTail, roll-TermTail, out-roll-TermTail}
use Rattle.nys_tree.specs.declared.expr.Test.{Test, map-Test, roll-Test, out-roll-Test}
use Rattle.nys_tree.specs.declared.expr.Factor.TheVariants as fv
use Rattle.nys_tree.specs.declared.expr.Neg.TheVariants as nv
use Rattle.nys_tree.specs.declared.expr.Factor.TheOpen.{Factor-F, Neg-F, Both-F, Expr-F, Sum-F, Tail-F, Term-F, TermTail-F, Test-F}
use Rattle.nys_tree.specs.Bindings.{Bindings}
use Rattle.nys_tree.specs.Named.{Check, all_named, factor_named, neg_named, both_named, expr_named, sum_named, tail_named, term_named, term_tail_named, test_named}
use Rattle.nys_tree.proofs.NamedEquations as ne
use Rattle.nys_meaning.specs.declared.value.Value.{Value}
use Rattle.nys_meaning.specs.declared.here.Here.{Here}
use Rattle.nys_meaning.specs.Numbers.{is_zero, truth, added, multiplied, compared}
use Rattle.nys_meaning.specs.Exprs as m
use Rattle.nys_meaning.specs.ByName.{name_reads}
use Rattle.nys_meaning.proofs.Equations as eq
use Rattle.nys_places.specs.declared.cells.Cells.{Cells}
use Rattle.nys_places.specs.Cells.{place_reads}
use Rattle.nys_places.specs.Layout.{names_of, IsStacked, HasAll}
use Rattle.nys_places.proofs.Layouts.{scalar_is, list_len_is, list_item_is}

-- a fact of each member
abbrev pub Each : {A : Type 0} → (A → Type 0) → List A → Type 0
Each P [] = Unit {0}
Each P (a ∷ more) = P a × Each P more

-- a value with a fact of it
abbrev pub Known : {A : Type 0} → (A → Type 0) → Type 0
Known {A} P = (a : A) × P a

-- the part is alike
pub each_known : {A : Type 0} (P : A → Type 0) (ys : List (Known P)) → Each P (map (λ q. q.0) ys)
each_known P [] = tt
each_known P (y ∷ more) = (y.1, each_known P more)

-- the part is alike
each_named : {A : Type 0} (named : A → Check) (P Q : A → Type 0) (s : Bindings) → ((a : A) → P a → named a s ≡ true → Q a) → (xs : List A) → Each P xs → all_named (map named xs) s ≡ true → Each Q xs
each_named named P Q s one [] k ok = tt
each_named named P Q s one (x ∷ more) k ok = let parts = and_parts _ _ ok in (one x k.0 parts.0, each_named named P Q s one more k.1 parts.1)

-- the part is alike
chain_same : {A : Type 0} (f g : A → Value → m.Given) (xs : List A) → Each (λ a. (v : Value) → f a v ≡ g a v) xs → (o : m.Given) → m.chain f o xs ≡ m.chain g o xs
chain_same f g [] k None = refl
chain_same f g [] k (Some v) = refl
chain_same f g (x ∷ more) k None = refl
chain_same f g (x ∷ more) k (Some v) = ap (λ o. m.chain f o more) (k.0 v) ∙ chain_same f g more k.1 (g x v)

-- what follows a unit alike is alike
pub unit_same : {A : Type 0} (n : ℕ) (f g : ℕ → Option A) → ((k : ℕ) → f k ≡ g k) → m.unit n f ≡ m.unit n g
unit_same zero f g same = refl
unit_same (suc n) f g same = same n

-- the part is alike
pub go_same : {A B : Type 0} (o : Option A) (f g : A → Option B) → ((a : A) → f a ≡ g a) → m.go_on o f ≡ m.go_on o g
go_same None f g same = refl
go_same (Some a) f g same = same a

-- both sides of a part, one after the other
pub both_same : {A B : Type 0} (o q : Option A) (f g : A → Option B) → o ≡ q → ((a : A) → f a ≡ g a) → m.go_on o f ≡ m.go_on q g
both_same o q f g e same = ap (λ x. m.go_on x f) e ∙ go_same q f g same

module _ (h : Here) where
  abbrev pub SameFactor : Factor → Type 0
  SameFactor t = (s : Bindings) → IsStacked s → factor_named t s ≡ true → (p : Cells) → HasAll s p → (n : ℕ) → m.factor place_reads h t p n ≡ m.factor name_reads h t (names_of s p) n

  -- the part is alike
  abbrev pub SameNeg : Neg → Type 0
  SameNeg t = (s : Bindings) → IsStacked s → neg_named t s ≡ true → (p : Cells) → HasAll s p → (n : ℕ) → m.neg place_reads h t p n ≡ m.neg name_reads h t (names_of s p) n

  -- the part is alike
  abbrev pub SameBoth : Both → Type 0
  SameBoth t = (s : Bindings) → IsStacked s → both_named t s ≡ true → (p : Cells) → HasAll s p → (n : ℕ) → m.both place_reads h t p n ≡ m.both name_reads h t (names_of s p) n

  -- the part is alike
  abbrev pub SameExpr : Expr → Type 0
  SameExpr t = (s : Bindings) → IsStacked s → expr_named t s ≡ true → (p : Cells) → HasAll s p → (n : ℕ) → m.expr place_reads h t p n ≡ m.expr name_reads h t (names_of s p) n

  -- the part is alike
  abbrev pub SameSum : Sum → Type 0
  SameSum t = (s : Bindings) → IsStacked s → sum_named t s ≡ true → (p : Cells) → HasAll s p → (n : ℕ) → m.sum place_reads h t p n ≡ m.sum name_reads h t (names_of s p) n

  -- the part is alike
  abbrev pub SameTail : Tail → Type 0
  SameTail t = (s : Bindings) → IsStacked s → tail_named t s ≡ true → (p : Cells) → HasAll s p → (x : Value) → m.tail place_reads h t p x ≡ m.tail name_reads h t (names_of s p) x

  -- the part is alike
  abbrev pub SameTerm : Term → Type 0
  SameTerm t = (s : Bindings) → IsStacked s → term_named t s ≡ true → (p : Cells) → HasAll s p → (n : ℕ) → m.term place_reads h t p n ≡ m.term name_reads h t (names_of s p) n

  -- the part is alike
  abbrev pub SameTermTail : TermTail → Type 0
  SameTermTail t = (s : Bindings) → IsStacked s → term_tail_named t s ≡ true → (p : Cells) → HasAll s p → (x : Value) → m.term_tail place_reads h t p x ≡ m.term_tail name_reads h t (names_of s p) x

  -- the part is alike
  abbrev pub SameTest : Test → Type 0
  SameTest t = (s : Bindings) → IsStacked s → test_named t s ≡ true → (p : Cells) → HasAll s p → (n : ℕ) → m.test place_reads h t p n ≡ m.test name_reads h t (names_of s p) n

  -- the part is alike
  factor_minus : (a : Factor) → SameFactor a → SameFactor (fv.Minus a)
  factor_minus a k = λ s st ok p has n.
      let named = sym (ne.factor_minus a s) ∙ ok in
      eq.factor_minus place_reads h a p n ∙ (unit_same n _ _ (λ i. ap (λ o. m.go_on o m.negated) (k s st named p has i)) ∙ sym (eq.factor_minus name_reads h a (names_of s p) n))

  -- the part is alike
  factor_number : (z : ℤ) → SameFactor (fv.Number z)
  factor_number z = λ s st ok p has n.
      let named = sym (ne.factor_number z s) ∙ ok in
      eq.factor_number place_reads h z p n ∙ (refl ∙ sym (eq.factor_number name_reads h z (names_of s p) n))

  -- the part is alike
  factor_me : SameFactor fv.Me
  factor_me = λ s st ok p has n.
      let named = sym (ne.factor_me s) ∙ ok in
      eq.factor_me place_reads h p n ∙ (refl ∙ sym (eq.factor_me name_reads h (names_of s p) n))

  -- the part is alike
  factor_hosts : SameFactor fv.Hosts
  factor_hosts = λ s st ok p has n.
      let named = sym (ne.factor_hosts s) ∙ ok in
      eq.factor_hosts place_reads h p n ∙ (refl ∙ sym (eq.factor_hosts name_reads h (names_of s p) n))

  -- the part is alike
  factor_len : (name : Name) → SameFactor (fv.Len name)
  factor_len name = λ s st ok p has n.
      let named = sym (ne.factor_len name s) ∙ ok in
      eq.factor_len place_reads h name p n ∙ (unit_same n _ _ (λ i. ap (m.with_left i) (list_len_is s p name st has named)) ∙ sym (eq.factor_len name_reads h name (names_of s p) n))

  -- the part is alike
  factor_scalar : (name : Name) → SameFactor (fv.Scalar name)
  factor_scalar name = λ s st ok p has n.
      let named = sym (ne.factor_scalar name s) ∙ ok in
      eq.factor_scalar place_reads h name p n ∙ (unit_same n _ _ (λ i. ap (m.with_left i) (scalar_is s p name st named)) ∙ sym (eq.factor_scalar name_reads h name (names_of s p) n))

  -- the part is alike
  factor_item : (name : Name) (a : Expr) → SameExpr a → SameFactor (fv.Item name a)
  factor_item name a k = λ s st ok p has n.
      let named = sym (ne.factor_item name a s) ∙ ok in
      eq.factor_item place_reads h name a p n ∙ (unit_same n _ _ (λ i. both_same _ _ _ _ (k s st (and_parts _ _ named).1 p has i) (λ x. ap (m.with_left x.left) (list_item_is s p name x.number (and_parts _ _ named).0))) ∙ sym (eq.factor_item name_reads h name a (names_of s p) n))

  -- the part is alike
  factor_inner : (a : Expr) → SameExpr a → SameFactor (fv.Inner a)
  factor_inner a k = λ s st ok p has n.
      let named = sym (ne.factor_inner a s) ∙ ok in
      eq.factor_inner place_reads h a p n ∙ (k s st named p has n ∙ sym (eq.factor_inner name_reads h a (names_of s p) n))

  -- the part is alike
  neg_not : (a : Neg) → SameNeg a → SameNeg (nv.Not a)
  neg_not a k = λ s st ok p has n.
      let named = sym (ne.neg_not a s) ∙ ok in
      eq.neg_not place_reads h a p n ∙ (unit_same n _ _ (λ i. ap (λ o. m.go_on o m.opposite) (k s st named p has i)) ∙ sym (eq.neg_not name_reads h a (names_of s p) n))

  -- the part is alike
  neg_plain : (a : Test) → SameTest a → SameNeg (nv.Plain a)
  neg_plain a k = λ s st ok p has n.
      let named = sym (ne.neg_plain a s) ∙ ok in
      eq.neg_plain place_reads h a p n ∙ (k s st named p has n ∙ sym (eq.neg_plain name_reads h a (names_of s p) n))

  -- the equation of the form at its layer
  sum_at : {E : Type 0} (r : m.Reads E) (x : Sum-F Factor Neg Both Expr Sum Tail Term TermTail Test) (e : E) (n : ℕ) → m.sum r h (roll-Sum x) e n ≡ m.chain (λ a. m.tail r h a e) (m.term r h x.first e n) x.rest
  sum_at r x e n = eq.sum_is r h (roll-Sum x) e n ∙ ap (λ (y : Sum-F Factor Neg Both Expr Sum Tail Term TermTail Test). m.chain (λ a. m.tail r h a e) (m.term r h y.first e n) y.rest) (out-roll-Sum x)

  -- the form is alike where its parts are
  sum_case : (x : Sum-F Factor Neg Both Expr Sum Tail Term TermTail Test) → SameTerm x.first → Each SameTail x.rest → SameSum (roll-Sum x)
  sum_case x first rest = λ s st ok p has n.
      let named = sym (ne.sum_is (roll-Sum x) s ∙ ap (λ (y : Sum-F Factor Neg Both Expr Sum Tail Term TermTail Test). term_named y.first s && all_named (map tail_named y.rest) s) (out-roll-Sum x)) ∙ ok in
      let parts = and_parts _ _ named in
      let later = each_named tail_named SameTail (λ a. (v : Value) → m.tail place_reads h a p v ≡ m.tail name_reads h a (names_of s p) v) s (λ a k ok v. k s st ok p has v) x.rest rest parts.1 in
      sum_at place_reads x p n
      ∙ (ap (λ o. m.chain (λ a. m.tail place_reads h a p) o x.rest) (first s st parts.0 p has n)
      ∙ (chain_same _ _ x.rest later (m.term name_reads h x.first (names_of s p) n) ∙ sym (sum_at name_reads x (names_of s p) n)))

  -- the equation of the form at its layer
  term_at : {E : Type 0} (r : m.Reads E) (x : Term-F Factor Neg Both Expr Sum Tail Term TermTail Test) (e : E) (n : ℕ) → m.term r h (roll-Term x) e n ≡ m.chain (λ a. m.term_tail r h a e) (m.factor r h x.first e n) x.rest
  term_at r x e n = eq.term_is r h (roll-Term x) e n ∙ ap (λ (y : Term-F Factor Neg Both Expr Sum Tail Term TermTail Test). m.chain (λ a. m.term_tail r h a e) (m.factor r h y.first e n) y.rest) (out-roll-Term x)

  -- the form is alike where its parts are
  term_case : (x : Term-F Factor Neg Both Expr Sum Tail Term TermTail Test) → SameFactor x.first → Each SameTermTail x.rest → SameTerm (roll-Term x)
  term_case x first rest = λ s st ok p has n.
      let named = sym (ne.term_is (roll-Term x) s ∙ ap (λ (y : Term-F Factor Neg Both Expr Sum Tail Term TermTail Test). factor_named y.first s && all_named (map term_tail_named y.rest) s) (out-roll-Term x)) ∙ ok in
      let parts = and_parts _ _ named in
      let later = each_named term_tail_named SameTermTail (λ a. (v : Value) → m.term_tail place_reads h a p v ≡ m.term_tail name_reads h a (names_of s p) v) s (λ a k ok v. k s st ok p has v) x.rest rest parts.1 in
      term_at place_reads x p n
      ∙ (ap (λ o. m.chain (λ a. m.term_tail place_reads h a p) o x.rest) (first s st parts.0 p has n)
      ∙ (chain_same _ _ x.rest later (m.factor name_reads h x.first (names_of s p) n) ∙ sym (term_at name_reads x (names_of s p) n)))

  -- the part is alike
  and_same : (s : Bindings) (p : Cells) (f : ℕ → m.Given) (g : ℕ → m.Given) → ((i : ℕ) → f i ≡ g i) → (v : Value)
      → m.and_on place_reads h p (λ _ i. f i) v ≡ m.and_on name_reads h (names_of s p) (λ _ i. g i) v
  and_same s p f g same v = unit_same v.left _ _ (λ i. ap (λ o. cond (is_zero v.number) (Some (m.value (pos 0) i)) (m.go_on o m.as_truth)) (same i))

  -- the part is alike
  or_same : (s : Bindings) (p : Cells) (f : ℕ → m.Given) (g : ℕ → m.Given) → ((i : ℕ) → f i ≡ g i) → (v : Value)
      → m.or_on place_reads h p (λ _ i. f i) v ≡ m.or_on name_reads h (names_of s p) (λ _ i. g i) v
  or_same s p f g same v = unit_same v.left _ _ (λ i. ap (λ o. cond (is_zero v.number) (m.go_on o m.as_truth) (Some (m.value (pos 1) i))) (same i))

  -- the equation of the form at its layer
  both_at : {E : Type 0} (r : m.Reads E) (x : Both-F Factor Neg Both Expr Sum Tail Term TermTail Test) (e : E) (n : ℕ) → m.both r h (roll-Both x) e n ≡ m.chain (λ a. m.and_on r h e (m.neg r h a)) (m.neg r h x.first e n) x.rest
  both_at r x e n = eq.both_is r h (roll-Both x) e n ∙ ap (λ (y : Both-F Factor Neg Both Expr Sum Tail Term TermTail Test). m.chain (λ a. m.and_on r h e (m.neg r h a)) (m.neg r h y.first e n) y.rest) (out-roll-Both x)

  -- the form is alike where its parts are
  both_case : (x : Both-F Factor Neg Both Expr Sum Tail Term TermTail Test) → SameNeg x.first → Each SameNeg x.rest → SameBoth (roll-Both x)
  both_case x first rest = λ s st ok p has n.
      let named = sym (ne.both_is (roll-Both x) s ∙ ap (λ (y : Both-F Factor Neg Both Expr Sum Tail Term TermTail Test). neg_named y.first s && all_named (map neg_named y.rest) s) (out-roll-Both x)) ∙ ok in
      let parts = and_parts _ _ named in
      let later = each_named neg_named SameNeg (λ a. (v : Value) → m.and_on place_reads h p (m.neg place_reads h a) v ≡ m.and_on name_reads h (names_of s p) (m.neg name_reads h a) v) s (λ a k ok v. and_same s p (m.neg place_reads h a p) (m.neg name_reads h a (names_of s p)) (k s st ok p has) v) x.rest rest parts.1 in
      both_at place_reads x p n
      ∙ (ap (λ o. m.chain (λ a. m.and_on place_reads h p (m.neg place_reads h a)) o x.rest) (first s st parts.0 p has n)
      ∙ (chain_same _ _ x.rest later (m.neg name_reads h x.first (names_of s p) n) ∙ sym (both_at name_reads x (names_of s p) n)))

  -- the equation of the form at its layer
  expr_at : {E : Type 0} (r : m.Reads E) (x : Expr-F Factor Neg Both Expr Sum Tail Term TermTail Test) (e : E) (n : ℕ) → m.expr r h (roll-Expr x) e n ≡ m.chain (λ a. m.or_on r h e (m.both r h a)) (m.both r h x.first e n) x.rest
  expr_at r x e n = eq.expr_is r h (roll-Expr x) e n ∙ ap (λ (y : Expr-F Factor Neg Both Expr Sum Tail Term TermTail Test). m.chain (λ a. m.or_on r h e (m.both r h a)) (m.both r h y.first e n) y.rest) (out-roll-Expr x)

  -- the form is alike where its parts are
  expr_case : (x : Expr-F Factor Neg Both Expr Sum Tail Term TermTail Test) → SameBoth x.first → Each SameBoth x.rest → SameExpr (roll-Expr x)
  expr_case x first rest = λ s st ok p has n.
      let named = sym (ne.expr_is (roll-Expr x) s ∙ ap (λ (y : Expr-F Factor Neg Both Expr Sum Tail Term TermTail Test). both_named y.first s && all_named (map both_named y.rest) s) (out-roll-Expr x)) ∙ ok in
      let parts = and_parts _ _ named in
      let later = each_named both_named SameBoth (λ a. (v : Value) → m.or_on place_reads h p (m.both place_reads h a) v ≡ m.or_on name_reads h (names_of s p) (m.both name_reads h a) v) s (λ a k ok v. or_same s p (m.both place_reads h a p) (m.both name_reads h a (names_of s p)) (k s st ok p has) v) x.rest rest parts.1 in
      expr_at place_reads x p n
      ∙ (ap (λ o. m.chain (λ a. m.or_on place_reads h p (m.both place_reads h a)) o x.rest) (first s st parts.0 p has n)
      ∙ (chain_same _ _ x.rest later (m.both name_reads h x.first (names_of s p) n) ∙ sym (expr_at name_reads x (names_of s p) n)))

  -- the equation of the form at its layer
  tail_at : {E : Type 0} (r : m.Reads E) (t : Tail-F Factor Neg Both Expr Sum Tail Term TermTail Test) (e : E) (x : Value) → m.tail r h (roll-Tail t) e x ≡ m.unit x.left (λ i. m.go_on (m.term r h t.term e i) (λ y. m.with_left y.left (added t.op x.number y.number)))
  tail_at r t e x = eq.tail_is r h (roll-Tail t) e x ∙ ap (λ (y : Tail-F Factor Neg Both Expr Sum Tail Term TermTail Test). m.unit x.left (λ i. m.go_on (m.term r h y.term e i) (λ z. m.with_left z.left (added y.op x.number z.number)))) (out-roll-Tail t)

  -- the form is alike where its parts are
  tail_case : (t : Tail-F Factor Neg Both Expr Sum Tail Term TermTail Test) → SameTerm t.term → SameTail (roll-Tail t)
  tail_case t k = λ s st ok p has x.
      let named = sym (ne.tail_is (roll-Tail t) s ∙ ap (λ (y : Tail-F Factor Neg Both Expr Sum Tail Term TermTail Test). term_named y.term s) (out-roll-Tail t)) ∙ ok in
      tail_at place_reads t p x
      ∙ (unit_same x.left _ _ (λ i. ap (λ o. m.go_on o (λ y. m.with_left y.left (added t.op x.number y.number))) (k s st named p has i)) ∙ sym (tail_at name_reads t (names_of s p) x))

  -- the equation of the form at its layer
  term_tail_at : {E : Type 0} (r : m.Reads E) (t : TermTail-F Factor Neg Both Expr Sum Tail Term TermTail Test) (e : E) (x : Value) → m.term_tail r h (roll-TermTail t) e x ≡ m.unit x.left (λ i. m.go_on (m.factor r h t.factor e i) (λ y. m.with_left y.left (multiplied t.op x.number y.number)))
  term_tail_at r t e x = eq.term_tail_is r h (roll-TermTail t) e x ∙ ap (λ (y : TermTail-F Factor Neg Both Expr Sum Tail Term TermTail Test). m.unit x.left (λ i. m.go_on (m.factor r h y.factor e i) (λ z. m.with_left z.left (multiplied y.op x.number z.number)))) (out-roll-TermTail t)

  -- the form is alike where its parts are
  term_tail_case : (t : TermTail-F Factor Neg Both Expr Sum Tail Term TermTail Test) → SameFactor t.factor → SameTermTail (roll-TermTail t)
  term_tail_case t k = λ s st ok p has x.
      let named = sym (ne.term_tail_is (roll-TermTail t) s ∙ ap (λ (y : TermTail-F Factor Neg Both Expr Sum Tail Term TermTail Test). factor_named y.factor s) (out-roll-TermTail t)) ∙ ok in
      term_tail_at place_reads t p x
      ∙ (unit_same x.left _ _ (λ i. ap (λ o. m.go_on o (λ y. m.with_left y.left (multiplied t.op x.number y.number))) (k s st named p has i)) ∙ sym (term_tail_at name_reads t (names_of s p) x))

  -- what is known of the right side of a comparison
  abbrev SameRight : Option (Compare × Sum) → Type 0
  SameRight None = Unit {0}
  SameRight (Some right) = SameSum right.1

  -- the part is alike
  right_same : (o : Option (Compare × Sum)) → SameRight o → (s : Bindings) → IsStacked s → ne.right_is_named o s ≡ true → (p : Cells) → HasAll s p → (v : Value)
      → m.compared_to place_reads h o p v ≡ m.compared_to name_reads h o (names_of s p) v
  right_same None k s st ok p has v = refl
  right_same (Some right) k s st ok p has v =
      unit_same v.left _ _ (λ i. ap (λ o. m.go_on o (λ y. Some (m.value (truth (compared right.0 v.number y.number)) y.left))) (k s st ok p has i))

  -- the equation of the form at its layer
  test_at : {E : Type 0} (r : m.Reads E) (x : Test-F Factor Neg Both Expr Sum Tail Term TermTail Test) (e : E) (n : ℕ) → m.test r h (roll-Test x) e n ≡ m.go_on (m.sum r h x.left e n) (m.compared_to r h x.right e)
  test_at r x e n = eq.test_is r h (roll-Test x) e n ∙ ap (λ (y : Test-F Factor Neg Both Expr Sum Tail Term TermTail Test). m.go_on (m.sum r h y.left e n) (m.compared_to r h y.right e)) (out-roll-Test x)

  -- the form is alike where its parts are
  test_case : (x : Test-F Factor Neg Both Expr Sum Tail Term TermTail Test) → SameSum x.left → SameRight x.right → SameTest (roll-Test x)
  test_case x left right = λ s st ok p has n.
      let named = sym (ne.test_is (roll-Test x) s ∙ ap (λ (y : Test-F Factor Neg Both Expr Sum Tail Term TermTail Test). sum_named y.left s && ne.right_is_named y.right s) (out-roll-Test x)) ∙ ok in
      let parts = and_parts _ _ named in
      test_at place_reads x p n
      ∙ (both_same _ _ _ _ (left s st parts.0 p has n) (right_same x.right right s st parts.1 p has) ∙ sym (test_at name_reads x (names_of s p) n))

  -- a layer whose parts are known is alike
  factor_layer : (y : Factor-F (Known SameFactor) (Known SameNeg) (Known SameBoth) (Known SameExpr) (Known SameSum) (Known SameTail) (Known SameTerm) (Known SameTermTail) (Known SameTest)) → SameFactor (roll-Factor (map-Factor (Known SameFactor) (Known SameNeg) (Known SameBoth) (Known SameExpr) (Known SameSum) (Known SameTail) (Known SameTerm) (Known SameTermTail) (Known SameTest) Factor Neg Both Expr Sum Tail Term TermTail Test (λ q. q.0) (λ q. q.0) (λ q. q.0) (λ q. q.0) (λ q. q.0) (λ q. q.0) (λ q. q.0) (λ q. q.0) (λ q. q.0) y))
  factor_layer (Factor-F.Minus a) = subst SameFactor (sym (fv.rolls-Minus a.0)) (factor_minus a.0 a.1)
  factor_layer (Factor-F.Number z) = subst SameFactor (sym (fv.rolls-Number z)) (factor_number z)
  factor_layer Factor-F.Me = subst SameFactor (sym fv.rolls-Me) factor_me
  factor_layer Factor-F.Hosts = subst SameFactor (sym fv.rolls-Hosts) factor_hosts
  factor_layer (Factor-F.Len name) = subst SameFactor (sym (fv.rolls-Len name)) (factor_len name)
  factor_layer (Factor-F.Scalar name) = subst SameFactor (sym (fv.rolls-Scalar name)) (factor_scalar name)
  factor_layer (Factor-F.Item name a) = subst SameFactor (sym (fv.rolls-Item name a.0)) (factor_item name a.0 a.1)
  factor_layer (Factor-F.Inner a) = subst SameFactor (sym (fv.rolls-Inner a.0)) (factor_inner a.0 a.1)

  -- a layer whose parts are known is alike
  neg_layer : (y : Neg-F (Known SameFactor) (Known SameNeg) (Known SameBoth) (Known SameExpr) (Known SameSum) (Known SameTail) (Known SameTerm) (Known SameTermTail) (Known SameTest)) → SameNeg (roll-Neg (map-Neg (Known SameFactor) (Known SameNeg) (Known SameBoth) (Known SameExpr) (Known SameSum) (Known SameTail) (Known SameTerm) (Known SameTermTail) (Known SameTest) Factor Neg Both Expr Sum Tail Term TermTail Test (λ q. q.0) (λ q. q.0) (λ q. q.0) (λ q. q.0) (λ q. q.0) (λ q. q.0) (λ q. q.0) (λ q. q.0) (λ q. q.0) y))
  neg_layer (Neg-F.Not a) = subst SameNeg (sym (nv.rolls-Not a.0)) (neg_not a.0 a.1)
  neg_layer (Neg-F.Plain a) = subst SameNeg (sym (nv.rolls-Plain a.0)) (neg_plain a.0 a.1)

  -- a layer whose parts are known is alike
  both_layer : (y : Both-F (Known SameFactor) (Known SameNeg) (Known SameBoth) (Known SameExpr) (Known SameSum) (Known SameTail) (Known SameTerm) (Known SameTermTail) (Known SameTest)) → SameBoth (roll-Both (map-Both (Known SameFactor) (Known SameNeg) (Known SameBoth) (Known SameExpr) (Known SameSum) (Known SameTail) (Known SameTerm) (Known SameTermTail) (Known SameTest) Factor Neg Both Expr Sum Tail Term TermTail Test (λ q. q.0) (λ q. q.0) (λ q. q.0) (λ q. q.0) (λ q. q.0) (λ q. q.0) (λ q. q.0) (λ q. q.0) (λ q. q.0) y))
  both_layer y = both_case (map-Both (Known SameFactor) (Known SameNeg) (Known SameBoth) (Known SameExpr) (Known SameSum) (Known SameTail) (Known SameTerm) (Known SameTermTail) (Known SameTest) Factor Neg Both Expr Sum Tail Term TermTail Test (λ q. q.0) (λ q. q.0) (λ q. q.0) (λ q. q.0) (λ q. q.0) (λ q. q.0) (λ q. q.0) (λ q. q.0) (λ q. q.0) y) y.first.1 (each_known SameNeg y.rest)

  -- a layer whose parts are known is alike
  expr_layer : (y : Expr-F (Known SameFactor) (Known SameNeg) (Known SameBoth) (Known SameExpr) (Known SameSum) (Known SameTail) (Known SameTerm) (Known SameTermTail) (Known SameTest)) → SameExpr (roll-Expr (map-Expr (Known SameFactor) (Known SameNeg) (Known SameBoth) (Known SameExpr) (Known SameSum) (Known SameTail) (Known SameTerm) (Known SameTermTail) (Known SameTest) Factor Neg Both Expr Sum Tail Term TermTail Test (λ q. q.0) (λ q. q.0) (λ q. q.0) (λ q. q.0) (λ q. q.0) (λ q. q.0) (λ q. q.0) (λ q. q.0) (λ q. q.0) y))
  expr_layer y = expr_case (map-Expr (Known SameFactor) (Known SameNeg) (Known SameBoth) (Known SameExpr) (Known SameSum) (Known SameTail) (Known SameTerm) (Known SameTermTail) (Known SameTest) Factor Neg Both Expr Sum Tail Term TermTail Test (λ q. q.0) (λ q. q.0) (λ q. q.0) (λ q. q.0) (λ q. q.0) (λ q. q.0) (λ q. q.0) (λ q. q.0) (λ q. q.0) y) y.first.1 (each_known SameBoth y.rest)

  -- a layer whose parts are known is alike
  sum_layer : (y : Sum-F (Known SameFactor) (Known SameNeg) (Known SameBoth) (Known SameExpr) (Known SameSum) (Known SameTail) (Known SameTerm) (Known SameTermTail) (Known SameTest)) → SameSum (roll-Sum (map-Sum (Known SameFactor) (Known SameNeg) (Known SameBoth) (Known SameExpr) (Known SameSum) (Known SameTail) (Known SameTerm) (Known SameTermTail) (Known SameTest) Factor Neg Both Expr Sum Tail Term TermTail Test (λ q. q.0) (λ q. q.0) (λ q. q.0) (λ q. q.0) (λ q. q.0) (λ q. q.0) (λ q. q.0) (λ q. q.0) (λ q. q.0) y))
  sum_layer y = sum_case (map-Sum (Known SameFactor) (Known SameNeg) (Known SameBoth) (Known SameExpr) (Known SameSum) (Known SameTail) (Known SameTerm) (Known SameTermTail) (Known SameTest) Factor Neg Both Expr Sum Tail Term TermTail Test (λ q. q.0) (λ q. q.0) (λ q. q.0) (λ q. q.0) (λ q. q.0) (λ q. q.0) (λ q. q.0) (λ q. q.0) (λ q. q.0) y) y.first.1 (each_known SameTail y.rest)

  -- a layer whose parts are known is alike
  term_layer : (y : Term-F (Known SameFactor) (Known SameNeg) (Known SameBoth) (Known SameExpr) (Known SameSum) (Known SameTail) (Known SameTerm) (Known SameTermTail) (Known SameTest)) → SameTerm (roll-Term (map-Term (Known SameFactor) (Known SameNeg) (Known SameBoth) (Known SameExpr) (Known SameSum) (Known SameTail) (Known SameTerm) (Known SameTermTail) (Known SameTest) Factor Neg Both Expr Sum Tail Term TermTail Test (λ q. q.0) (λ q. q.0) (λ q. q.0) (λ q. q.0) (λ q. q.0) (λ q. q.0) (λ q. q.0) (λ q. q.0) (λ q. q.0) y))
  term_layer y = term_case (map-Term (Known SameFactor) (Known SameNeg) (Known SameBoth) (Known SameExpr) (Known SameSum) (Known SameTail) (Known SameTerm) (Known SameTermTail) (Known SameTest) Factor Neg Both Expr Sum Tail Term TermTail Test (λ q. q.0) (λ q. q.0) (λ q. q.0) (λ q. q.0) (λ q. q.0) (λ q. q.0) (λ q. q.0) (λ q. q.0) (λ q. q.0) y) y.first.1 (each_known SameTermTail y.rest)

  -- a layer whose parts are known is alike
  tail_layer : (y : Tail-F (Known SameFactor) (Known SameNeg) (Known SameBoth) (Known SameExpr) (Known SameSum) (Known SameTail) (Known SameTerm) (Known SameTermTail) (Known SameTest)) → SameTail (roll-Tail (map-Tail (Known SameFactor) (Known SameNeg) (Known SameBoth) (Known SameExpr) (Known SameSum) (Known SameTail) (Known SameTerm) (Known SameTermTail) (Known SameTest) Factor Neg Both Expr Sum Tail Term TermTail Test (λ q. q.0) (λ q. q.0) (λ q. q.0) (λ q. q.0) (λ q. q.0) (λ q. q.0) (λ q. q.0) (λ q. q.0) (λ q. q.0) y))
  tail_layer y = tail_case (map-Tail (Known SameFactor) (Known SameNeg) (Known SameBoth) (Known SameExpr) (Known SameSum) (Known SameTail) (Known SameTerm) (Known SameTermTail) (Known SameTest) Factor Neg Both Expr Sum Tail Term TermTail Test (λ q. q.0) (λ q. q.0) (λ q. q.0) (λ q. q.0) (λ q. q.0) (λ q. q.0) (λ q. q.0) (λ q. q.0) (λ q. q.0) y) y.term.1

  -- a layer whose parts are known is alike
  term_tail_layer : (y : TermTail-F (Known SameFactor) (Known SameNeg) (Known SameBoth) (Known SameExpr) (Known SameSum) (Known SameTail) (Known SameTerm) (Known SameTermTail) (Known SameTest)) → SameTermTail (roll-TermTail (map-TermTail (Known SameFactor) (Known SameNeg) (Known SameBoth) (Known SameExpr) (Known SameSum) (Known SameTail) (Known SameTerm) (Known SameTermTail) (Known SameTest) Factor Neg Both Expr Sum Tail Term TermTail Test (λ q. q.0) (λ q. q.0) (λ q. q.0) (λ q. q.0) (λ q. q.0) (λ q. q.0) (λ q. q.0) (λ q. q.0) (λ q. q.0) y))
  term_tail_layer y = term_tail_case (map-TermTail (Known SameFactor) (Known SameNeg) (Known SameBoth) (Known SameExpr) (Known SameSum) (Known SameTail) (Known SameTerm) (Known SameTermTail) (Known SameTest) Factor Neg Both Expr Sum Tail Term TermTail Test (λ q. q.0) (λ q. q.0) (λ q. q.0) (λ q. q.0) (λ q. q.0) (λ q. q.0) (λ q. q.0) (λ q. q.0) (λ q. q.0) y) y.factor.1

  -- a layer whose parts are known is alike
  test_layer_by : (l : Known SameSum) (o : Option (Compare × Known SameSum)) → SameTest (roll-Test (map-Test (Known SameFactor) (Known SameNeg) (Known SameBoth) (Known SameExpr) (Known SameSum) (Known SameTail) (Known SameTerm) (Known SameTermTail) (Known SameTest) Factor Neg Both Expr Sum Tail Term TermTail Test (λ q. q.0) (λ q. q.0) (λ q. q.0) (λ q. q.0) (λ q. q.0) (λ q. q.0) (λ q. q.0) (λ q. q.0) (λ q. q.0) (record { left = l; right = o })))
  test_layer_by l None = test_case (map-Test (Known SameFactor) (Known SameNeg) (Known SameBoth) (Known SameExpr) (Known SameSum) (Known SameTail) (Known SameTerm) (Known SameTermTail) (Known SameTest) Factor Neg Both Expr Sum Tail Term TermTail Test (λ q. q.0) (λ q. q.0) (λ q. q.0) (λ q. q.0) (λ q. q.0) (λ q. q.0) (λ q. q.0) (λ q. q.0) (λ q. q.0) (record { left = l; right = None })) l.1 tt
  test_layer_by l (Some right) = test_case (map-Test (Known SameFactor) (Known SameNeg) (Known SameBoth) (Known SameExpr) (Known SameSum) (Known SameTail) (Known SameTerm) (Known SameTermTail) (Known SameTest) Factor Neg Both Expr Sum Tail Term TermTail Test (λ q. q.0) (λ q. q.0) (λ q. q.0) (λ q. q.0) (λ q. q.0) (λ q. q.0) (λ q. q.0) (λ q. q.0) (λ q. q.0) (record { left = l; right = Some right })) l.1 right.1.1

  -- a layer whose parts are known is alike
  test_layer : (y : Test-F (Known SameFactor) (Known SameNeg) (Known SameBoth) (Known SameExpr) (Known SameSum) (Known SameTail) (Known SameTerm) (Known SameTermTail) (Known SameTest)) → SameTest (roll-Test (map-Test (Known SameFactor) (Known SameNeg) (Known SameBoth) (Known SameExpr) (Known SameSum) (Known SameTail) (Known SameTerm) (Known SameTermTail) (Known SameTest) Factor Neg Both Expr Sum Tail Term TermTail Test (λ q. q.0) (λ q. q.0) (λ q. q.0) (λ q. q.0) (λ q. q.0) (λ q. q.0) (λ q. q.0) (λ q. q.0) (λ q. q.0) y))
  test_layer y = test_layer_by y.left y.right

  -- by place an expression gives what it gives by name
  pub expr_alike : (t : Expr) → SameExpr t
  expr_alike = ind-Expr SameFactor SameNeg SameBoth SameExpr SameSum SameTail SameTerm SameTermTail SameTest
      (λ x y is. subst (λ z. SameFactor (roll-Factor z)) is (factor_layer y))
      (λ x y is. subst (λ z. SameNeg (roll-Neg z)) is (neg_layer y))
      (λ x y is. subst (λ z. SameBoth (roll-Both z)) is (both_layer y))
      (λ x y is. subst (λ z. SameExpr (roll-Expr z)) is (expr_layer y))
      (λ x y is. subst (λ z. SameSum (roll-Sum z)) is (sum_layer y))
      (λ x y is. subst (λ z. SameTail (roll-Tail z)) is (tail_layer y))
      (λ x y is. subst (λ z. SameTerm (roll-Term z)) is (term_layer y))
      (λ x y is. subst (λ z. SameTermTail (roll-TermTail z)) is (term_tail_layer y))
      (λ x y is. subst (λ z. SameTest (roll-Test z)) is (test_layer y))

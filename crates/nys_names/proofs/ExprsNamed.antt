-- Expressions that were placed are named.
use Rattle.std.proofs.Common.{◌≡◌, ℤ, true, ◌&&◌, List, [], ◌∷◌, map, Option, Some, None, Ok, refl, ap, sym, ◌∙◌, subst}
use Rattle.nys_tree.specs.declared.expr.Compare.{Compare}
use Rattle.nys_tree.specs.declared.name.Name.{Name}
use Rattle.nys_tree.specs.declared.expr.Factor.{Factor, map-Factor, roll-Factor}
use Rattle.nys_tree.specs.declared.expr.Neg.{Neg, map-Neg, roll-Neg}
use Rattle.nys_tree.specs.declared.expr.Both.{Both, map-Both, roll-Both, out-roll-Both}
use Rattle.nys_tree.specs.declared.expr.Expr.{Expr, map-Expr, roll-Expr, out-roll-Expr, ind-Expr}
use Rattle.nys_tree.specs.declared.expr.Sum.{Sum, map-Sum, roll-Sum, out-roll-Sum}
use Rattle.nys_tree.specs.declared.expr.Tail.{Tail, map-Tail, roll-Tail, out-roll-Tail}
use Rattle.nys_tree.specs.declared.expr.Term.{Term, map-Term, roll-Term, out-roll-Term}
use Rattle.nys_tree.specs.declared.expr.TermTail.{TermTail, map-TermTail, roll-TermTail, out-roll-TermTail}
use Rattle.nys_tree.specs.declared.expr.Test.{Test, map-Test, roll-Test, out-roll-Test}
use Rattle.nys_tree.specs.declared.expr.Factor.TheVariants as fv
use Rattle.nys_tree.specs.declared.expr.Neg.TheVariants as nv
use Rattle.nys_tree.specs.declared.expr.Factor.TheOpen.{Factor-F, Neg-F, Both-F, Expr-F, Sum-F, Tail-F, Term-F, TermTail-F, Test-F}
use Rattle.nys_tree.specs.Bindings.{Bindings}
use Rattle.nys_tree.specs.Named.{Check, all_named, factor_named, neg_named, both_named, expr_named, sum_named, tail_named, term_named, term_tail_named, test_named}
use Rattle.nys_tree.proofs.NamedEquations as ne
use Rattle.nys_names.specs.Names.{Placed, go_on, scalar, list}
use Rattle.nys_names.specs.Exprs.{all_placed, factor, neg, both, expr, sum, tail, term, term_tail, test, right}
use Rattle.nys_names.proofs.ExprEquations as eq
use Rattle.nys_names.proofs.NameLemmas.{go_on_ok, ok_is, both_true, scalar_ok, list_ok}

-- a fact of each member
abbrev pub Each : {A : Type 0} → (A → Type 0) → List A → Type 0
Each P [] = Unit {0}
Each P (a ∷ more) = P a × Each P more

-- a value with a fact of it
abbrev pub Known : {A : Type 0} → (A → Type 0) → Type 0
Known {A} P = (a : A) × P a

-- values that each come with a fact have it
pub each_known : {A : Type 0} (P : A → Type 0) (ys : List (Known P)) → Each P (map (λ q. q.0) ys)
each_known P [] = tt
each_known P (y ∷ more) = (y.1, each_known P more)

-- what a part becomes is named
abbrev pub IsNamed : {A : Type 0} → (A → Placed A) → (A → Check) → A → Type 0
IsNamed {A} placed named a = (s : Bindings) (u : A) → placed a s ≡ Ok u → named u s ≡ true

-- parts that were placed one after the other are named, where each part by itself is
all_ok : {A : Type 0} (placed : A → Placed A) (named : A → Check) (xs : List A) → Each (IsNamed placed named) xs → (s : Bindings) (ys : List A)
    → all_placed (map placed xs) s ≡ Ok ys → all_named (map named ys) s ≡ true
all_ok placed named [] k s ys e = subst (λ zs. all_named (map named zs) s ≡ true) (ok_is [] ys (Ok []) refl e) refl
all_ok placed named (x ∷ xs) k s ys e =
    let one = go_on_ok (placed x s) (λ y. go_on (all_placed (map placed xs) s) (λ zs. Ok (y ∷ zs))) ys e in
    let two = go_on_ok (all_placed (map placed xs) s) (λ zs. Ok (one.0 ∷ zs)) ys one.2 in
    subst (λ zs. all_named (map named zs) s ≡ true) (ok_is (one.0 ∷ two.0) ys (Ok (one.0 ∷ two.0)) refl two.2)
    (both_true _ _ (k.0 s one.0 one.1) (all_ok placed named xs k.1 s two.0 two.1))

-- whatever the factor becomes is named
abbrev pub NamedFactor : Factor → Type 0
NamedFactor = IsNamed factor factor_named

-- whatever the negation or comparison becomes is named
abbrev pub NamedNeg : Neg → Type 0
NamedNeg = IsNamed neg neg_named

-- whatever the operands of `and` become is named
abbrev pub NamedBoth : Both → Type 0
NamedBoth = IsNamed both both_named

-- whatever the expression becomes is named
abbrev pub NamedExpr : Expr → Type 0
NamedExpr = IsNamed expr expr_named

-- whatever the sum becomes is named
abbrev pub NamedSum : Sum → Type 0
NamedSum = IsNamed sum sum_named

-- whatever the term behind its operator becomes is named
abbrev pub NamedTail : Tail → Type 0
NamedTail = IsNamed tail tail_named

-- whatever the term becomes is named
abbrev pub NamedTerm : Term → Type 0
NamedTerm = IsNamed term term_named

-- whatever the factor behind its operator becomes is named
abbrev pub NamedTermTail : TermTail → Type 0
NamedTermTail = IsNamed term_tail term_tail_named

-- whatever the comparison becomes is named
abbrev pub NamedTest : Test → Type 0
NamedTest = IsNamed test test_named

-- a number has no name to test
factor_number : (z : ℤ) → NamedFactor (fv.Number z)
factor_number z = λ s u ok. subst (λ z. factor_named z s ≡ true) (ok_is (fv.Number z) u _ (eq.factor_number z s) ok) (ne.factor_number z s)

-- `me` has no name to test
factor_me : NamedFactor fv.Me
factor_me = λ s u ok. subst (λ z. factor_named z s ≡ true) (ok_is fv.Me u _ (eq.factor_me s) ok) (ne.factor_me s)

-- `hosts` has no name to test
factor_hosts : NamedFactor fv.Hosts
factor_hosts = λ s u ok. subst (λ z. factor_named z s ≡ true) (ok_is fv.Hosts u _ (eq.factor_hosts s) ok) (ne.factor_hosts s)

-- behind a minus, the factor is named
factor_minus : (a : Factor) → NamedFactor a → NamedFactor (fv.Minus a)
factor_minus a k = λ s u ok.
    let one = go_on_ok (factor a s) (λ x. Ok (fv.Minus x)) u (sym (eq.factor_minus a s) ∙ ok) in
    subst (λ z. factor_named z s ≡ true) (ok_is (fv.Minus one.0) u (Ok (fv.Minus one.0)) refl one.2) (ne.factor_minus one.0 s ∙ k s one.0 one.1)

-- in parentheses, the expression is named
factor_inner : (a : Expr) → NamedExpr a → NamedFactor (fv.Inner a)
factor_inner a k = λ s u ok.
    let one = go_on_ok (expr a s) (λ x. Ok (fv.Inner x)) u (sym (eq.factor_inner a s) ∙ ok) in
    subst (λ z. factor_named z s ≡ true) (ok_is (fv.Inner one.0) u (Ok (fv.Inner one.0)) refl one.2) (ne.factor_inner one.0 s ∙ k s one.0 one.1)

-- behind a `not`, the operand is named
neg_not : (a : Neg) → NamedNeg a → NamedNeg (nv.Not a)
neg_not a k = λ s u ok.
    let one = go_on_ok (neg a s) (λ x. Ok (nv.Not x)) u (sym (eq.neg_not a s) ∙ ok) in
    subst (λ z. neg_named z s ≡ true) (ok_is (nv.Not one.0) u (Ok (nv.Not one.0)) refl one.2) (ne.neg_not one.0 s ∙ k s one.0 one.1)

-- without a `not`, the comparison is named
neg_plain : (a : Test) → NamedTest a → NamedNeg (nv.Plain a)
neg_plain a k = λ s u ok.
    let one = go_on_ok (test a s) (λ x. Ok (nv.Plain x)) u (sym (eq.neg_plain a s) ∙ ok) in
    subst (λ z. neg_named z s ≡ true) (ok_is (nv.Plain one.0) u (Ok (nv.Plain one.0)) refl one.2) (ne.neg_plain one.0 s ∙ k s one.0 one.1)

-- the name in `len` is a list that is seen
factor_len : (name : Name) → NamedFactor (fv.Len name)
factor_len name = λ s u ok.
    let one = go_on_ok (list name s) (λ n. Ok (fv.Len n)) u (sym (eq.factor_len name s) ∙ ok) in
    subst (λ z. factor_named z s ≡ true) (ok_is (fv.Len one.0) u (Ok (fv.Len one.0)) refl one.2) (ne.factor_len one.0 s ∙ list_ok name s one.0 one.1)

-- a name without an index is a scalar that is seen
factor_scalar : (name : Name) → NamedFactor (fv.Scalar name)
factor_scalar name = λ s u ok.
    let one = go_on_ok (scalar name s) (λ n. Ok (fv.Scalar n)) u (sym (eq.factor_scalar name s) ∙ ok) in
    subst (λ z. factor_named z s ≡ true) (ok_is (fv.Scalar one.0) u (Ok (fv.Scalar one.0)) refl one.2) (ne.factor_scalar one.0 s ∙ scalar_ok name s one.0 one.1)

-- a name with an index is a list that is seen, and its index is named
factor_item : (name : Name) (a : Expr) → NamedExpr a → NamedFactor (fv.Item name a)
factor_item name a k = λ s u ok.
    let one = go_on_ok (list name s) (λ n. go_on (expr a s) (λ i. Ok (fv.Item n i))) u (sym (eq.factor_item name a s) ∙ ok) in
    let two = go_on_ok (expr a s) (λ i. Ok (fv.Item one.0 i)) u one.2 in
    subst (λ z. factor_named z s ≡ true) (ok_is (fv.Item one.0 two.0) u (Ok (fv.Item one.0 two.0)) refl two.2)
    (ne.factor_item one.0 two.0 s ∙ both_true _ _ (list_ok name s one.0 one.1) (k s two.0 two.1))

-- the equation of a sum, at the sum of given parts
sum_at : (x : Sum-F Factor Neg Both Expr Sum Tail Term TermTail Test) (s : Bindings) → sum (roll-Sum x) s ≡ go_on (term x.first s) (λ a. go_on (all_placed (map tail x.rest) s) (λ b. Ok (roll-Sum (record { first = a; rest = b }))))
sum_at x s = eq.sum_is (roll-Sum x) s ∙ ap (λ (y : Sum-F Factor Neg Both Expr Sum Tail Term TermTail Test). go_on (term y.first s) (λ a. go_on (all_placed (map tail y.rest) s) (λ b. Ok (roll-Sum (record { first = a; rest = b }))))) (out-roll-Sum x)

-- a sum is named where its terms are
sum_case : (x : Sum-F Factor Neg Both Expr Sum Tail Term TermTail Test) → NamedTerm x.first → Each NamedTail x.rest → NamedSum (roll-Sum x)
sum_case x first rest = λ s u ok.
    let one = go_on_ok (term x.first s) (λ a. go_on (all_placed (map tail x.rest) s) (λ b. Ok (roll-Sum (record { first = a; rest = b })))) u (sym (sum_at x s) ∙ ok) in
    let two = go_on_ok (all_placed (map tail x.rest) s) (λ b. Ok (roll-Sum (record { first = one.0; rest = b }))) u one.2 in
    let y : Sum-F Factor Neg Both Expr Sum Tail Term TermTail Test = record { first = one.0; rest = two.0 } in
    subst (λ z. sum_named z s ≡ true) (ok_is (roll-Sum y) u (Ok (roll-Sum y)) refl two.2)
    (ne.sum_is (roll-Sum y) s ∙ (ap (λ (z : Sum-F Factor Neg Both Expr Sum Tail Term TermTail Test). term_named z.first s && all_named (map tail_named z.rest) s) (out-roll-Sum y)
    ∙ both_true _ _ (first s one.0 one.1) (all_ok tail tail_named x.rest rest s two.0 two.1)))

-- the equation of a term, at the term of given parts
term_at : (x : Term-F Factor Neg Both Expr Sum Tail Term TermTail Test) (s : Bindings) → term (roll-Term x) s ≡ go_on (factor x.first s) (λ a. go_on (all_placed (map term_tail x.rest) s) (λ b. Ok (roll-Term (record { first = a; rest = b }))))
term_at x s = eq.term_is (roll-Term x) s ∙ ap (λ (y : Term-F Factor Neg Both Expr Sum Tail Term TermTail Test). go_on (factor y.first s) (λ a. go_on (all_placed (map term_tail y.rest) s) (λ b. Ok (roll-Term (record { first = a; rest = b }))))) (out-roll-Term x)

-- a term is named where its factors are
term_case : (x : Term-F Factor Neg Both Expr Sum Tail Term TermTail Test) → NamedFactor x.first → Each NamedTermTail x.rest → NamedTerm (roll-Term x)
term_case x first rest = λ s u ok.
    let one = go_on_ok (factor x.first s) (λ a. go_on (all_placed (map term_tail x.rest) s) (λ b. Ok (roll-Term (record { first = a; rest = b })))) u (sym (term_at x s) ∙ ok) in
    let two = go_on_ok (all_placed (map term_tail x.rest) s) (λ b. Ok (roll-Term (record { first = one.0; rest = b }))) u one.2 in
    let y : Term-F Factor Neg Both Expr Sum Tail Term TermTail Test = record { first = one.0; rest = two.0 } in
    subst (λ z. term_named z s ≡ true) (ok_is (roll-Term y) u (Ok (roll-Term y)) refl two.2)
    (ne.term_is (roll-Term y) s ∙ (ap (λ (z : Term-F Factor Neg Both Expr Sum Tail Term TermTail Test). factor_named z.first s && all_named (map term_tail_named z.rest) s) (out-roll-Term y)
    ∙ both_true _ _ (first s one.0 one.1) (all_ok term_tail term_tail_named x.rest rest s two.0 two.1)))

-- the equation of operands of `and`, at given operands
both_at : (x : Both-F Factor Neg Both Expr Sum Tail Term TermTail Test) (s : Bindings) → both (roll-Both x) s ≡ go_on (neg x.first s) (λ a. go_on (all_placed (map neg x.rest) s) (λ b. Ok (roll-Both (record { first = a; rest = b }))))
both_at x s = eq.both_is (roll-Both x) s ∙ ap (λ (y : Both-F Factor Neg Both Expr Sum Tail Term TermTail Test). go_on (neg y.first s) (λ a. go_on (all_placed (map neg y.rest) s) (λ b. Ok (roll-Both (record { first = a; rest = b }))))) (out-roll-Both x)

-- operands of `and` are named where each is
both_case : (x : Both-F Factor Neg Both Expr Sum Tail Term TermTail Test) → NamedNeg x.first → Each NamedNeg x.rest → NamedBoth (roll-Both x)
both_case x first rest = λ s u ok.
    let one = go_on_ok (neg x.first s) (λ a. go_on (all_placed (map neg x.rest) s) (λ b. Ok (roll-Both (record { first = a; rest = b })))) u (sym (both_at x s) ∙ ok) in
    let two = go_on_ok (all_placed (map neg x.rest) s) (λ b. Ok (roll-Both (record { first = one.0; rest = b }))) u one.2 in
    let y : Both-F Factor Neg Both Expr Sum Tail Term TermTail Test = record { first = one.0; rest = two.0 } in
    subst (λ z. both_named z s ≡ true) (ok_is (roll-Both y) u (Ok (roll-Both y)) refl two.2)
    (ne.both_is (roll-Both y) s ∙ (ap (λ (z : Both-F Factor Neg Both Expr Sum Tail Term TermTail Test). neg_named z.first s && all_named (map neg_named z.rest) s) (out-roll-Both y)
    ∙ both_true _ _ (first s one.0 one.1) (all_ok neg neg_named x.rest rest s two.0 two.1)))

-- the equation of an expression, at the expression of given operands
expr_at : (x : Expr-F Factor Neg Both Expr Sum Tail Term TermTail Test) (s : Bindings) → expr (roll-Expr x) s ≡ go_on (both x.first s) (λ a. go_on (all_placed (map both x.rest) s) (λ b. Ok (roll-Expr (record { first = a; rest = b }))))
expr_at x s = eq.expr_is (roll-Expr x) s ∙ ap (λ (y : Expr-F Factor Neg Both Expr Sum Tail Term TermTail Test). go_on (both y.first s) (λ a. go_on (all_placed (map both y.rest) s) (λ b. Ok (roll-Expr (record { first = a; rest = b }))))) (out-roll-Expr x)

-- an expression is named where its operands are
expr_case : (x : Expr-F Factor Neg Both Expr Sum Tail Term TermTail Test) → NamedBoth x.first → Each NamedBoth x.rest → NamedExpr (roll-Expr x)
expr_case x first rest = λ s u ok.
    let one = go_on_ok (both x.first s) (λ a. go_on (all_placed (map both x.rest) s) (λ b. Ok (roll-Expr (record { first = a; rest = b })))) u (sym (expr_at x s) ∙ ok) in
    let two = go_on_ok (all_placed (map both x.rest) s) (λ b. Ok (roll-Expr (record { first = one.0; rest = b }))) u one.2 in
    let y : Expr-F Factor Neg Both Expr Sum Tail Term TermTail Test = record { first = one.0; rest = two.0 } in
    subst (λ z. expr_named z s ≡ true) (ok_is (roll-Expr y) u (Ok (roll-Expr y)) refl two.2)
    (ne.expr_is (roll-Expr y) s ∙ (ap (λ (z : Expr-F Factor Neg Both Expr Sum Tail Term TermTail Test). both_named z.first s && all_named (map both_named z.rest) s) (out-roll-Expr y)
    ∙ both_true _ _ (first s one.0 one.1) (all_ok both both_named x.rest rest s two.0 two.1)))

-- the equation of a term behind its operator, at given parts
tail_at : (x : Tail-F Factor Neg Both Expr Sum Tail Term TermTail Test) (s : Bindings) → tail (roll-Tail x) s ≡ go_on (term x.term s) (λ a. Ok (roll-Tail (record { op = x.op; term = a })))
tail_at x s = eq.tail_is (roll-Tail x) s ∙ ap (λ (y : Tail-F Factor Neg Both Expr Sum Tail Term TermTail Test). go_on (term y.term s) (λ a. Ok (roll-Tail (record { op = y.op; term = a })))) (out-roll-Tail x)

-- a term behind its operator is named where the term is
tail_case : (x : Tail-F Factor Neg Both Expr Sum Tail Term TermTail Test) → NamedTerm x.term → NamedTail (roll-Tail x)
tail_case x k = λ s u ok.
    let one = go_on_ok (term x.term s) (λ a. Ok (roll-Tail (record { op = x.op; term = a }))) u (sym (tail_at x s) ∙ ok) in
    let y : Tail-F Factor Neg Both Expr Sum Tail Term TermTail Test = record { op = x.op; term = one.0 } in
    subst (λ z. tail_named z s ≡ true) (ok_is (roll-Tail y) u (Ok (roll-Tail y)) refl one.2)
    (ne.tail_is (roll-Tail y) s ∙ (ap (λ (z : Tail-F Factor Neg Both Expr Sum Tail Term TermTail Test). term_named z.term s) (out-roll-Tail y) ∙ k s one.0 one.1))

-- the equation of a factor behind its operator, at given parts
term_tail_at : (x : TermTail-F Factor Neg Both Expr Sum Tail Term TermTail Test) (s : Bindings) → term_tail (roll-TermTail x) s ≡ go_on (factor x.factor s) (λ a. Ok (roll-TermTail (record { op = x.op; factor = a })))
term_tail_at x s = eq.term_tail_is (roll-TermTail x) s ∙ ap (λ (y : TermTail-F Factor Neg Both Expr Sum Tail Term TermTail Test). go_on (factor y.factor s) (λ a. Ok (roll-TermTail (record { op = y.op; factor = a })))) (out-roll-TermTail x)

-- a factor behind its operator is named where the factor is
term_tail_case : (x : TermTail-F Factor Neg Both Expr Sum Tail Term TermTail Test) → NamedFactor x.factor → NamedTermTail (roll-TermTail x)
term_tail_case x k = λ s u ok.
    let one = go_on_ok (factor x.factor s) (λ a. Ok (roll-TermTail (record { op = x.op; factor = a }))) u (sym (term_tail_at x s) ∙ ok) in
    let y : TermTail-F Factor Neg Both Expr Sum Tail Term TermTail Test = record { op = x.op; factor = one.0 } in
    subst (λ z. term_tail_named z s ≡ true) (ok_is (roll-TermTail y) u (Ok (roll-TermTail y)) refl one.2)
    (ne.term_tail_is (roll-TermTail y) s ∙ (ap (λ (z : TermTail-F Factor Neg Both Expr Sum Tail Term TermTail Test). factor_named z.factor s) (out-roll-TermTail y) ∙ k s one.0 one.1))

-- what is known of the right side of a comparison
abbrev NamedRight : Option (Compare × Sum) → Type 0
NamedRight None = Unit {0}
NamedRight (Some r) = NamedSum r.1

-- the right side of a comparison is named where its sum is
right_ok : (o : Option (Compare × Sum)) → NamedRight o → (s : Bindings) (p : Option (Compare × Sum)) → right o s ≡ Ok p → ne.right_is_named p s ≡ true
right_ok None k s p e = subst (λ z. ne.right_is_named z s ≡ true) (ok_is None p (Ok None) refl e) refl
right_ok (Some r) k s p e =
    let one = go_on_ok (sum r.1 s) (λ x. Ok (Some (r.0, x))) p e in
    subst (λ z. ne.right_is_named z s ≡ true) (ok_is (Some (r.0, one.0)) p (Ok (Some (r.0, one.0))) refl one.2) (k s one.0 one.1)

-- the equation of a comparison, at given sides
test_at : (x : Test-F Factor Neg Both Expr Sum Tail Term TermTail Test) (s : Bindings) → test (roll-Test x) s ≡ go_on (sum x.left s) (λ a. go_on (right x.right s) (λ b. Ok (roll-Test (record { left = a; right = b }))))
test_at x s = eq.test_is (roll-Test x) s ∙ ap (λ (y : Test-F Factor Neg Both Expr Sum Tail Term TermTail Test). go_on (sum y.left s) (λ a. go_on (right y.right s) (λ b. Ok (roll-Test (record { left = a; right = b }))))) (out-roll-Test x)

-- a comparison is named where its sides are
test_case : (x : Test-F Factor Neg Both Expr Sum Tail Term TermTail Test) → NamedSum x.left → NamedRight x.right → NamedTest (roll-Test x)
test_case x left k = λ s u ok.
    let one = go_on_ok (sum x.left s) (λ a. go_on (right x.right s) (λ b. Ok (roll-Test (record { left = a; right = b })))) u (sym (test_at x s) ∙ ok) in
    let two = go_on_ok (right x.right s) (λ b. Ok (roll-Test (record { left = one.0; right = b }))) u one.2 in
    let y : Test-F Factor Neg Both Expr Sum Tail Term TermTail Test = record { left = one.0; right = two.0 } in
    subst (λ z. test_named z s ≡ true) (ok_is (roll-Test y) u (Ok (roll-Test y)) refl two.2)
    (ne.test_is (roll-Test y) s ∙ (ap (λ (z : Test-F Factor Neg Both Expr Sum Tail Term TermTail Test). sum_named z.left s && ne.right_is_named z.right s) (out-roll-Test y)
    ∙ both_true _ _ (left s one.0 one.1) (right_ok x.right k s two.0 two.1)))

-- each form of factor is named where its parts are
factor_layer : (y : Factor-F (Known NamedFactor) (Known NamedNeg) (Known NamedBoth) (Known NamedExpr) (Known NamedSum) (Known NamedTail) (Known NamedTerm) (Known NamedTermTail) (Known NamedTest)) → NamedFactor (roll-Factor (map-Factor (Known NamedFactor) (Known NamedNeg) (Known NamedBoth) (Known NamedExpr) (Known NamedSum) (Known NamedTail) (Known NamedTerm) (Known NamedTermTail) (Known NamedTest) Factor Neg Both Expr Sum Tail Term TermTail Test (λ q. q.0) (λ q. q.0) (λ q. q.0) (λ q. q.0) (λ q. q.0) (λ q. q.0) (λ q. q.0) (λ q. q.0) (λ q. q.0) y))
factor_layer (Factor-F.Minus a) = subst NamedFactor (sym (fv.rolls-Minus a.0)) (factor_minus a.0 a.1)
factor_layer (Factor-F.Number z) = subst NamedFactor (sym (fv.rolls-Number z)) (factor_number z)
factor_layer Factor-F.Me = subst NamedFactor (sym fv.rolls-Me) factor_me
factor_layer Factor-F.Hosts = subst NamedFactor (sym fv.rolls-Hosts) factor_hosts
factor_layer (Factor-F.Len name) = subst NamedFactor (sym (fv.rolls-Len name)) (factor_len name)
factor_layer (Factor-F.Scalar name) = subst NamedFactor (sym (fv.rolls-Scalar name)) (factor_scalar name)
factor_layer (Factor-F.Item name a) = subst NamedFactor (sym (fv.rolls-Item name a.0)) (factor_item name a.0 a.1)
factor_layer (Factor-F.Inner a) = subst NamedFactor (sym (fv.rolls-Inner a.0)) (factor_inner a.0 a.1)

-- both forms of negation are named where their parts are
neg_layer : (y : Neg-F (Known NamedFactor) (Known NamedNeg) (Known NamedBoth) (Known NamedExpr) (Known NamedSum) (Known NamedTail) (Known NamedTerm) (Known NamedTermTail) (Known NamedTest)) → NamedNeg (roll-Neg (map-Neg (Known NamedFactor) (Known NamedNeg) (Known NamedBoth) (Known NamedExpr) (Known NamedSum) (Known NamedTail) (Known NamedTerm) (Known NamedTermTail) (Known NamedTest) Factor Neg Both Expr Sum Tail Term TermTail Test (λ q. q.0) (λ q. q.0) (λ q. q.0) (λ q. q.0) (λ q. q.0) (λ q. q.0) (λ q. q.0) (λ q. q.0) (λ q. q.0) y))
neg_layer (Neg-F.Not a) = subst NamedNeg (sym (nv.rolls-Not a.0)) (neg_not a.0 a.1)
neg_layer (Neg-F.Plain a) = subst NamedNeg (sym (nv.rolls-Plain a.0)) (neg_plain a.0 a.1)

-- operands of `and` that are known to be named make a part that is
both_layer : (y : Both-F (Known NamedFactor) (Known NamedNeg) (Known NamedBoth) (Known NamedExpr) (Known NamedSum) (Known NamedTail) (Known NamedTerm) (Known NamedTermTail) (Known NamedTest)) → NamedBoth (roll-Both (map-Both (Known NamedFactor) (Known NamedNeg) (Known NamedBoth) (Known NamedExpr) (Known NamedSum) (Known NamedTail) (Known NamedTerm) (Known NamedTermTail) (Known NamedTest) Factor Neg Both Expr Sum Tail Term TermTail Test (λ q. q.0) (λ q. q.0) (λ q. q.0) (λ q. q.0) (λ q. q.0) (λ q. q.0) (λ q. q.0) (λ q. q.0) (λ q. q.0) y))
both_layer y = both_case (map-Both (Known NamedFactor) (Known NamedNeg) (Known NamedBoth) (Known NamedExpr) (Known NamedSum) (Known NamedTail) (Known NamedTerm) (Known NamedTermTail) (Known NamedTest) Factor Neg Both Expr Sum Tail Term TermTail Test (λ q. q.0) (λ q. q.0) (λ q. q.0) (λ q. q.0) (λ q. q.0) (λ q. q.0) (λ q. q.0) (λ q. q.0) (λ q. q.0) y) y.first.1 (each_known NamedNeg y.rest)

-- operands of `or` that are known to be named make an expression that is
expr_layer : (y : Expr-F (Known NamedFactor) (Known NamedNeg) (Known NamedBoth) (Known NamedExpr) (Known NamedSum) (Known NamedTail) (Known NamedTerm) (Known NamedTermTail) (Known NamedTest)) → NamedExpr (roll-Expr (map-Expr (Known NamedFactor) (Known NamedNeg) (Known NamedBoth) (Known NamedExpr) (Known NamedSum) (Known NamedTail) (Known NamedTerm) (Known NamedTermTail) (Known NamedTest) Factor Neg Both Expr Sum Tail Term TermTail Test (λ q. q.0) (λ q. q.0) (λ q. q.0) (λ q. q.0) (λ q. q.0) (λ q. q.0) (λ q. q.0) (λ q. q.0) (λ q. q.0) y))
expr_layer y = expr_case (map-Expr (Known NamedFactor) (Known NamedNeg) (Known NamedBoth) (Known NamedExpr) (Known NamedSum) (Known NamedTail) (Known NamedTerm) (Known NamedTermTail) (Known NamedTest) Factor Neg Both Expr Sum Tail Term TermTail Test (λ q. q.0) (λ q. q.0) (λ q. q.0) (λ q. q.0) (λ q. q.0) (λ q. q.0) (λ q. q.0) (λ q. q.0) (λ q. q.0) y) y.first.1 (each_known NamedBoth y.rest)

-- terms that are known to be named make a sum that is
sum_layer : (y : Sum-F (Known NamedFactor) (Known NamedNeg) (Known NamedBoth) (Known NamedExpr) (Known NamedSum) (Known NamedTail) (Known NamedTerm) (Known NamedTermTail) (Known NamedTest)) → NamedSum (roll-Sum (map-Sum (Known NamedFactor) (Known NamedNeg) (Known NamedBoth) (Known NamedExpr) (Known NamedSum) (Known NamedTail) (Known NamedTerm) (Known NamedTermTail) (Known NamedTest) Factor Neg Both Expr Sum Tail Term TermTail Test (λ q. q.0) (λ q. q.0) (λ q. q.0) (λ q. q.0) (λ q. q.0) (λ q. q.0) (λ q. q.0) (λ q. q.0) (λ q. q.0) y))
sum_layer y = sum_case (map-Sum (Known NamedFactor) (Known NamedNeg) (Known NamedBoth) (Known NamedExpr) (Known NamedSum) (Known NamedTail) (Known NamedTerm) (Known NamedTermTail) (Known NamedTest) Factor Neg Both Expr Sum Tail Term TermTail Test (λ q. q.0) (λ q. q.0) (λ q. q.0) (λ q. q.0) (λ q. q.0) (λ q. q.0) (λ q. q.0) (λ q. q.0) (λ q. q.0) y) y.first.1 (each_known NamedTail y.rest)

-- factors that are known to be named make a term that is
term_layer : (y : Term-F (Known NamedFactor) (Known NamedNeg) (Known NamedBoth) (Known NamedExpr) (Known NamedSum) (Known NamedTail) (Known NamedTerm) (Known NamedTermTail) (Known NamedTest)) → NamedTerm (roll-Term (map-Term (Known NamedFactor) (Known NamedNeg) (Known NamedBoth) (Known NamedExpr) (Known NamedSum) (Known NamedTail) (Known NamedTerm) (Known NamedTermTail) (Known NamedTest) Factor Neg Both Expr Sum Tail Term TermTail Test (λ q. q.0) (λ q. q.0) (λ q. q.0) (λ q. q.0) (λ q. q.0) (λ q. q.0) (λ q. q.0) (λ q. q.0) (λ q. q.0) y))
term_layer y = term_case (map-Term (Known NamedFactor) (Known NamedNeg) (Known NamedBoth) (Known NamedExpr) (Known NamedSum) (Known NamedTail) (Known NamedTerm) (Known NamedTermTail) (Known NamedTest) Factor Neg Both Expr Sum Tail Term TermTail Test (λ q. q.0) (λ q. q.0) (λ q. q.0) (λ q. q.0) (λ q. q.0) (λ q. q.0) (λ q. q.0) (λ q. q.0) (λ q. q.0) y) y.first.1 (each_known NamedTermTail y.rest)

-- a term that is known to be named is so behind its operator
tail_layer : (y : Tail-F (Known NamedFactor) (Known NamedNeg) (Known NamedBoth) (Known NamedExpr) (Known NamedSum) (Known NamedTail) (Known NamedTerm) (Known NamedTermTail) (Known NamedTest)) → NamedTail (roll-Tail (map-Tail (Known NamedFactor) (Known NamedNeg) (Known NamedBoth) (Known NamedExpr) (Known NamedSum) (Known NamedTail) (Known NamedTerm) (Known NamedTermTail) (Known NamedTest) Factor Neg Both Expr Sum Tail Term TermTail Test (λ q. q.0) (λ q. q.0) (λ q. q.0) (λ q. q.0) (λ q. q.0) (λ q. q.0) (λ q. q.0) (λ q. q.0) (λ q. q.0) y))
tail_layer y = tail_case (map-Tail (Known NamedFactor) (Known NamedNeg) (Known NamedBoth) (Known NamedExpr) (Known NamedSum) (Known NamedTail) (Known NamedTerm) (Known NamedTermTail) (Known NamedTest) Factor Neg Both Expr Sum Tail Term TermTail Test (λ q. q.0) (λ q. q.0) (λ q. q.0) (λ q. q.0) (λ q. q.0) (λ q. q.0) (λ q. q.0) (λ q. q.0) (λ q. q.0) y) y.term.1

-- a factor that is known to be named is so behind its operator
term_tail_layer : (y : TermTail-F (Known NamedFactor) (Known NamedNeg) (Known NamedBoth) (Known NamedExpr) (Known NamedSum) (Known NamedTail) (Known NamedTerm) (Known NamedTermTail) (Known NamedTest)) → NamedTermTail (roll-TermTail (map-TermTail (Known NamedFactor) (Known NamedNeg) (Known NamedBoth) (Known NamedExpr) (Known NamedSum) (Known NamedTail) (Known NamedTerm) (Known NamedTermTail) (Known NamedTest) Factor Neg Both Expr Sum Tail Term TermTail Test (λ q. q.0) (λ q. q.0) (λ q. q.0) (λ q. q.0) (λ q. q.0) (λ q. q.0) (λ q. q.0) (λ q. q.0) (λ q. q.0) y))
term_tail_layer y = term_tail_case (map-TermTail (Known NamedFactor) (Known NamedNeg) (Known NamedBoth) (Known NamedExpr) (Known NamedSum) (Known NamedTail) (Known NamedTerm) (Known NamedTermTail) (Known NamedTest) Factor Neg Both Expr Sum Tail Term TermTail Test (λ q. q.0) (λ q. q.0) (λ q. q.0) (λ q. q.0) (λ q. q.0) (λ q. q.0) (λ q. q.0) (λ q. q.0) (λ q. q.0) y) y.factor.1

-- a comparison is named with a right side that is known to be, and without one
test_layer_by : (l : Known NamedSum) (o : Option (Compare × Known NamedSum)) → NamedTest (roll-Test (map-Test (Known NamedFactor) (Known NamedNeg) (Known NamedBoth) (Known NamedExpr) (Known NamedSum) (Known NamedTail) (Known NamedTerm) (Known NamedTermTail) (Known NamedTest) Factor Neg Both Expr Sum Tail Term TermTail Test (λ q. q.0) (λ q. q.0) (λ q. q.0) (λ q. q.0) (λ q. q.0) (λ q. q.0) (λ q. q.0) (λ q. q.0) (λ q. q.0) (record { left = l; right = o })))
test_layer_by l None = test_case (map-Test (Known NamedFactor) (Known NamedNeg) (Known NamedBoth) (Known NamedExpr) (Known NamedSum) (Known NamedTail) (Known NamedTerm) (Known NamedTermTail) (Known NamedTest) Factor Neg Both Expr Sum Tail Term TermTail Test (λ q. q.0) (λ q. q.0) (λ q. q.0) (λ q. q.0) (λ q. q.0) (λ q. q.0) (λ q. q.0) (λ q. q.0) (λ q. q.0) (record { left = l; right = None })) l.1 tt
test_layer_by l (Some r) = test_case (map-Test (Known NamedFactor) (Known NamedNeg) (Known NamedBoth) (Known NamedExpr) (Known NamedSum) (Known NamedTail) (Known NamedTerm) (Known NamedTermTail) (Known NamedTest) Factor Neg Both Expr Sum Tail Term TermTail Test (λ q. q.0) (λ q. q.0) (λ q. q.0) (λ q. q.0) (λ q. q.0) (λ q. q.0) (λ q. q.0) (λ q. q.0) (λ q. q.0) (record { left = l; right = Some r })) l.1 r.1.1

-- sides that are known to be named make a comparison that is
test_layer : (y : Test-F (Known NamedFactor) (Known NamedNeg) (Known NamedBoth) (Known NamedExpr) (Known NamedSum) (Known NamedTail) (Known NamedTerm) (Known NamedTermTail) (Known NamedTest)) → NamedTest (roll-Test (map-Test (Known NamedFactor) (Known NamedNeg) (Known NamedBoth) (Known NamedExpr) (Known NamedSum) (Known NamedTail) (Known NamedTerm) (Known NamedTermTail) (Known NamedTest) Factor Neg Both Expr Sum Tail Term TermTail Test (λ q. q.0) (λ q. q.0) (λ q. q.0) (λ q. q.0) (λ q. q.0) (λ q. q.0) (λ q. q.0) (λ q. q.0) (λ q. q.0) y))
test_layer y = test_layer_by y.left y.right

-- an expression that was placed is named
pub expr_ok : (t : Expr) → NamedExpr t
expr_ok = ind-Expr NamedFactor NamedNeg NamedBoth NamedExpr NamedSum NamedTail NamedTerm NamedTermTail NamedTest
    (λ x y is. subst (λ z. NamedFactor (roll-Factor z)) is (factor_layer y))
    (λ x y is. subst (λ z. NamedNeg (roll-Neg z)) is (neg_layer y))
    (λ x y is. subst (λ z. NamedBoth (roll-Both z)) is (both_layer y))
    (λ x y is. subst (λ z. NamedExpr (roll-Expr z)) is (expr_layer y))
    (λ x y is. subst (λ z. NamedSum (roll-Sum z)) is (sum_layer y))
    (λ x y is. subst (λ z. NamedTail (roll-Tail z)) is (tail_layer y))
    (λ x y is. subst (λ z. NamedTerm (roll-Term z)) is (term_layer y))
    (λ x y is. subst (λ z. NamedTermTail (roll-TermTail z)) is (term_tail_layer y))
    (λ x y is. subst (λ z. NamedTest (roll-Test z)) is (test_layer y))

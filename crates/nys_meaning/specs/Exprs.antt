-- What an expression gives, whatever its names stand for.
use Rattle.std.specs.Prelude.{ℕ, zero, suc, ℤ, pos, neg_ℤ, not, if◌then◌else◌, List, [], ◌∷◌, ◌++◌, Option, Some, None}
use Rattle.nys_tree.specs.declared.expr.Expr.{Expr, fold-Expr}
use Rattle.nys_tree.specs.declared.expr.Both.{Both, fold-Both}
use Rattle.nys_tree.specs.declared.expr.Neg.{Neg, fold-Neg}
use Rattle.nys_tree.specs.declared.expr.Test.{Test, fold-Test}
use Rattle.nys_tree.specs.declared.expr.Sum.{Sum, fold-Sum}
use Rattle.nys_tree.specs.declared.expr.Tail.{Tail, fold-Tail}
use Rattle.nys_tree.specs.declared.expr.Term.{Term, fold-Term}
use Rattle.nys_tree.specs.declared.expr.TermTail.{TermTail, fold-TermTail}
use Rattle.nys_tree.specs.declared.expr.Factor.{Factor, fold-Factor}
use Rattle.nys_tree.specs.declared.expr.Factor.TheOpen.{Factor-F, Neg-F, Both-F, Expr-F, Sum-F, Tail-F, Term-F, TermTail-F, Test-F}
use Rattle.nys_tree.specs.declared.expr.Compare.{Compare}
use Rattle.nys_tree.specs.declared.name.Name.{Name}
use Rattle.nys_meaning.specs.declared.value.Listed.{Listed}
use Rattle.nys_meaning.specs.declared.value.Value.{Value}
use Rattle.nys_meaning.specs.declared.here.Here.{Here}
use Rattle.nys_meaning.specs.Numbers.{checked, is_zero, truth, added, multiplied, compared}

-- what an expression gives, or nothing after a fault
abbrev pub Given : Type 0
Given = Option Value

-- a number and the units that are left
abbrev pub value : ℤ → ℕ → Value
value z n = record { number = z; left = n }

-- a number that may be missing, and the units that are left
abbrev pub with_left : ℕ → Option ℤ → Given
with_left n None = None
with_left n (Some z) = Some (value z n)

-- what follows a part that has no fault
abbrev pub go_on : {A B : Type 0} → Option A → (A → Option B) → Option B
go_on None next = None
go_on (Some x) next = next x

-- one unit is taken, and what follows is given those that are left; there is a fault where none is
abbrev pub unit : {A : Type 0} → ℕ → (ℕ → Option A) → Option A
unit zero next = None
unit (suc n) next = next n

-- how names are read, whatever they are read from
pub record Reads (E : Type 0) : Type 0 where
  -- the number of a scalar
  pub scalar : E → Name → Option ℤ
  -- the item of a list at an index
  pub item : E → Name → ℤ → Option ℤ
  -- how many items a list has
  pub len : E → Name → Option ℤ

-- the value's opposite, as a number
abbrev pub negated : Value → Given
negated x = with_left x.left (checked (neg_ℤ x.number))

-- the value as a truth
abbrev pub as_truth : Value → Given
as_truth x = Some (value (truth (not (is_zero x.number))) x.left)

-- the value's opposite, as a truth
abbrev pub opposite : Value → Given
opposite x = Some (value (truth (is_zero x.number)) x.left)

-- the steps of a level taken one by one, each with what those before it gave
abbrev pub chain : {A : Type 0} → (A → Value → Given) → Given → List A → Given
chain step None xs = None
chain step (Some x) [] = Some x
chain step (Some x) (a ∷ more) = chain step (step a x) more

-- what a part gives, with these names and these units
abbrev pub Meaning : Type 0 → Type 0
Meaning E = E → ℕ → Given

-- what an operator and its right side make of the left side
abbrev pub Onward : Type 0 → Type 0
Onward E = E → Value → Given

module _ {E : Type 0} (r : Reads E) (h : Here) where
  -- a factor takes one unit; parentheses take none
  abbrev pub factor_step : Factor-F (Meaning E) (Meaning E) (Meaning E) (Meaning E) (Meaning E) (Onward E) (Meaning E) (Onward E) (Meaning E) → Meaning E
  factor_step (Factor-F.Minus a) = λ e n. unit n (λ m. go_on (a e m) negated)
  factor_step (Factor-F.Number z) = λ e n. unit n (λ m. Some (value z m))
  factor_step Factor-F.Me = λ e n. unit n (λ m. Some (value (pos h.me) m))
  factor_step Factor-F.Hosts = λ e n. unit n (λ m. Some (value (pos h.hosts) m))
  factor_step (Factor-F.Len name) = λ e n. unit n (λ m. with_left m (r.len e name))
  factor_step (Factor-F.Scalar name) = λ e n. unit n (λ m. with_left m (r.scalar e name))
  factor_step (Factor-F.Item name a) = λ e n. unit n (λ m. go_on (a e m) (λ x. with_left x.left (r.item e name x.number)))
  factor_step (Factor-F.Inner a) = a

  -- `not` takes one unit, and turns a truth
  abbrev pub neg_step : Neg-F (Meaning E) (Meaning E) (Meaning E) (Meaning E) (Meaning E) (Onward E) (Meaning E) (Onward E) (Meaning E) → Meaning E
  neg_step (Neg-F.Not a) = λ e n. unit n (λ m. go_on (a e m) opposite)
  neg_step (Neg-F.Plain a) = a

  -- a right side that is evaluated, as a truth
  abbrev pub right_truth : E → Meaning E → ℕ → Given
  right_truth e a m = go_on (a e m) as_truth

  -- `and`: where the left side is 0, the right one is left alone
  abbrev pub and_on : E → Meaning E → Value → Given
  and_on e a x = unit x.left (λ m. if is_zero x.number then Some (value (pos 0) m) else right_truth e a m)

  -- `or`: where the left side is no 0, the right one is left alone
  abbrev pub or_on : E → Meaning E → Value → Given
  or_on e a x = unit x.left (λ m. if is_zero x.number then right_truth e a m else Some (value (pos 1) m))

  -- `expr` goes on as `or`, `both` as `and`
  abbrev pub both_step : Both-F (Meaning E) (Meaning E) (Meaning E) (Meaning E) (Meaning E) (Onward E) (Meaning E) (Onward E) (Meaning E) → Meaning E
  both_step b = λ e n. chain (and_on e) (b.first e n) b.rest

  -- the operands of `or`, from left to right
  abbrev pub expr_step : Expr-F (Meaning E) (Meaning E) (Meaning E) (Meaning E) (Meaning E) (Onward E) (Meaning E) (Onward E) (Meaning E) → Meaning E
  expr_step a = λ e n. chain (or_on e) (a.first e n) a.rest

  -- the terms of a sum, from left to right
  abbrev pub sum_step : Sum-F (Meaning E) (Meaning E) (Meaning E) (Meaning E) (Meaning E) (Onward E) (Meaning E) (Onward E) (Meaning E) → Meaning E
  sum_step a = λ e n. chain (λ t. t e) (a.first e n) a.rest

  -- `+` and `-` take one unit, then the right side is evaluated
  abbrev pub tail_step : Tail-F (Meaning E) (Meaning E) (Meaning E) (Meaning E) (Meaning E) (Onward E) (Meaning E) (Onward E) (Meaning E) → Onward E
  tail_step t = λ e x. unit x.left (λ m. go_on (t.term e m) (λ y. with_left y.left (added t.op x.number y.number)))

  -- the factors of a term, from left to right
  abbrev pub term_step : Term-F (Meaning E) (Meaning E) (Meaning E) (Meaning E) (Meaning E) (Onward E) (Meaning E) (Onward E) (Meaning E) → Meaning E
  term_step a = λ e n. chain (λ t. t e) (a.first e n) a.rest

  -- `*`, `/` and `%` take one unit, then the right side is evaluated
  abbrev pub term_tail_step : TermTail-F (Meaning E) (Meaning E) (Meaning E) (Meaning E) (Meaning E) (Onward E) (Meaning E) (Onward E) (Meaning E) → Onward E
  term_tail_step t = λ e x. unit x.left (λ m. go_on (t.factor e m) (λ y. with_left y.left (multiplied t.op x.number y.number)))

  -- the right side of a comparison, where there is one
  abbrev pub compared_with : Option (Compare × Meaning E) → E → Value → Given
  compared_with None e x = Some x
  compared_with (Some right) e x =
      unit x.left (λ m. go_on (right.1 e m) (λ y. Some (value (truth (compared right.0 x.number y.number)) y.left)))

  -- a comparison: the left side first
  abbrev pub test_step : Test-F (Meaning E) (Meaning E) (Meaning E) (Meaning E) (Meaning E) (Onward E) (Meaning E) (Onward E) (Meaning E) → Meaning E
  test_step t = λ e n. go_on (t.left e n) (λ x. compared_with t.right e x)

  -- what each level of the grammar gives
  unfoldable pub expr : Expr → Meaning E
  expr = fold-Expr (Meaning E) (Meaning E) (Meaning E) (Meaning E) (Meaning E) (Onward E) (Meaning E) (Onward E) (Meaning E) factor_step neg_step both_step expr_step sum_step tail_step term_step term_tail_step test_step

  -- the same of operands of `and`
  unfoldable pub both : Both → Meaning E
  both = fold-Both (Meaning E) (Meaning E) (Meaning E) (Meaning E) (Meaning E) (Onward E) (Meaning E) (Onward E) (Meaning E) factor_step neg_step both_step expr_step sum_step tail_step term_step term_tail_step test_step

  -- the same of a negation or a comparison
  unfoldable pub neg : Neg → Meaning E
  neg = fold-Neg (Meaning E) (Meaning E) (Meaning E) (Meaning E) (Meaning E) (Onward E) (Meaning E) (Onward E) (Meaning E) factor_step neg_step both_step expr_step sum_step tail_step term_step term_tail_step test_step

  -- the same of a comparison
  unfoldable pub test : Test → Meaning E
  test = fold-Test (Meaning E) (Meaning E) (Meaning E) (Meaning E) (Meaning E) (Onward E) (Meaning E) (Onward E) (Meaning E) factor_step neg_step both_step expr_step sum_step tail_step term_step term_tail_step test_step

  -- the same of a sum
  unfoldable pub sum : Sum → Meaning E
  sum = fold-Sum (Meaning E) (Meaning E) (Meaning E) (Meaning E) (Meaning E) (Onward E) (Meaning E) (Onward E) (Meaning E) factor_step neg_step both_step expr_step sum_step tail_step term_step term_tail_step test_step

  -- the same of a term behind its operator
  unfoldable pub tail : Tail → Onward E
  tail = fold-Tail (Meaning E) (Meaning E) (Meaning E) (Meaning E) (Meaning E) (Onward E) (Meaning E) (Onward E) (Meaning E) factor_step neg_step both_step expr_step sum_step tail_step term_step term_tail_step test_step

  -- the same of a product
  unfoldable pub term : Term → Meaning E
  term = fold-Term (Meaning E) (Meaning E) (Meaning E) (Meaning E) (Meaning E) (Onward E) (Meaning E) (Onward E) (Meaning E) factor_step neg_step both_step expr_step sum_step tail_step term_step term_tail_step test_step

  -- the same of a factor behind its operator
  unfoldable pub term_tail : TermTail → Onward E
  term_tail = fold-TermTail (Meaning E) (Meaning E) (Meaning E) (Meaning E) (Meaning E) (Onward E) (Meaning E) (Onward E) (Meaning E) factor_step neg_step both_step expr_step sum_step tail_step term_step term_tail_step test_step

  -- the same of a factor
  unfoldable pub factor : Factor → Meaning E
  factor = fold-Factor (Meaning E) (Meaning E) (Meaning E) (Meaning E) (Meaning E) (Onward E) (Meaning E) (Onward E) (Meaning E) factor_step neg_step both_step expr_step sum_step tail_step term_step term_tail_step test_step

  -- the right side of a comparison, by what its sum gives
  abbrev pub compared_to : Option (Compare × Sum) → E → Value → Given
  compared_to None e x = Some x
  compared_to (Some right) e x =
      unit x.left (λ m. go_on (sum right.1 e m) (λ y. Some (value (truth (compared right.0 x.number y.number)) y.left)))

  -- the numbers of a list's members, in order, behind those so far
  abbrev pub numbers : List Expr → List ℤ → E → ℕ → Option Listed
  numbers [] so_far e n = Some (record { numbers = so_far; left = n })
  numbers (a ∷ more) so_far e n = go_on (expr a e n) (λ x. numbers more (so_far ++ x.number ∷ []) e x.left)

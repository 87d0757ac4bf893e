-- Expressions: each use of a name by the rules, from left to right.
use Rattle.std.specs.Prelude.{List, [], ◌∷◌, Option, Some, None, Ok}
use Rattle.nys_tree.specs.declared.expr.Compare.{Compare}
use Rattle.nys_tree.specs.declared.expr.Factor.{Factor, fold-Factor}
use Rattle.nys_tree.specs.declared.expr.Neg.{Neg, fold-Neg}
use Rattle.nys_tree.specs.declared.expr.Both.{Both, fold-Both, roll-Both}
use Rattle.nys_tree.specs.declared.expr.Expr.{Expr, fold-Expr, roll-Expr}
use Rattle.nys_tree.specs.declared.expr.Sum.{Sum, fold-Sum, roll-Sum}
use Rattle.nys_tree.specs.declared.expr.Tail.{Tail, fold-Tail, roll-Tail}
use Rattle.nys_tree.specs.declared.expr.Term.{Term, fold-Term, roll-Term}
use Rattle.nys_tree.specs.declared.expr.TermTail.{TermTail, fold-TermTail, roll-TermTail}
use Rattle.nys_tree.specs.declared.expr.Test.{Test, fold-Test, roll-Test}
use Rattle.nys_tree.specs.declared.expr.Factor.TheVariants as fv
use Rattle.nys_tree.specs.declared.expr.Neg.TheVariants as nv
use Rattle.nys_tree.specs.declared.expr.Factor.TheOpen.{Factor-F, Neg-F, Both-F, Expr-F, Sum-F, Tail-F, Term-F, TermTail-F, Test-F}
use Rattle.nys_names.specs.Names.{Placed, go_on, scalar, list}

-- all parts, one after the other
abbrev pub all_placed : {A : Type 0} → List (Placed A) → Placed (List A)
all_placed [] s = Ok []
all_placed (t ∷ ts) s = go_on (t s) (λ x. go_on (all_placed ts s) (λ xs. Ok (x ∷ xs)))

-- one factor, by what its parts become
abbrev pub factor_step : Factor-F (Placed Factor) (Placed Neg) (Placed Both) (Placed Expr) (Placed Sum) (Placed Tail) (Placed Term) (Placed TermTail) (Placed Test) → Placed Factor
factor_step (Factor-F.Minus a) s = go_on (a s) (λ x. Ok (fv.Minus x))
factor_step (Factor-F.Number z) s = Ok (fv.Number z)
factor_step Factor-F.Me s = Ok fv.Me
factor_step Factor-F.Hosts s = Ok fv.Hosts
factor_step (Factor-F.Len name) s = go_on (list name s) (λ n. Ok (fv.Len n))
factor_step (Factor-F.Scalar name) s = go_on (scalar name s) (λ n. Ok (fv.Scalar n))
factor_step (Factor-F.Item name index) s = go_on (list name s) (λ n. go_on (index s) (λ i. Ok (fv.Item n i)))
factor_step (Factor-F.Inner a) s = go_on (a s) (λ x. Ok (fv.Inner x))

-- one negation or comparison
abbrev pub neg_step : Neg-F (Placed Factor) (Placed Neg) (Placed Both) (Placed Expr) (Placed Sum) (Placed Tail) (Placed Term) (Placed TermTail) (Placed Test) → Placed Neg
neg_step (Neg-F.Not a) s = go_on (a s) (λ x. Ok (nv.Not x))
neg_step (Neg-F.Plain a) s = go_on (a s) (λ x. Ok (nv.Plain x))

-- operands of `and`
abbrev pub both_step : Both-F (Placed Factor) (Placed Neg) (Placed Both) (Placed Expr) (Placed Sum) (Placed Tail) (Placed Term) (Placed TermTail) (Placed Test) → Placed Both
both_step t s = go_on (t.first s) (λ x. go_on (all_placed t.rest s) (λ xs. Ok (roll-Both (record { first = x; rest = xs }))))

-- operands of `or`
abbrev pub expr_step : Expr-F (Placed Factor) (Placed Neg) (Placed Both) (Placed Expr) (Placed Sum) (Placed Tail) (Placed Term) (Placed TermTail) (Placed Test) → Placed Expr
expr_step t s = go_on (t.first s) (λ x. go_on (all_placed t.rest s) (λ xs. Ok (roll-Expr (record { first = x; rest = xs }))))

-- terms of a sum
abbrev pub sum_step : Sum-F (Placed Factor) (Placed Neg) (Placed Both) (Placed Expr) (Placed Sum) (Placed Tail) (Placed Term) (Placed TermTail) (Placed Test) → Placed Sum
sum_step t s = go_on (t.first s) (λ x. go_on (all_placed t.rest s) (λ xs. Ok (roll-Sum (record { first = x; rest = xs }))))

-- factors of a term
abbrev pub term_step : Term-F (Placed Factor) (Placed Neg) (Placed Both) (Placed Expr) (Placed Sum) (Placed Tail) (Placed Term) (Placed TermTail) (Placed Test) → Placed Term
term_step t s = go_on (t.first s) (λ x. go_on (all_placed t.rest s) (λ xs. Ok (roll-Term (record { first = x; rest = xs }))))

-- a term behind its operator
abbrev pub tail_step : Tail-F (Placed Factor) (Placed Neg) (Placed Both) (Placed Expr) (Placed Sum) (Placed Tail) (Placed Term) (Placed TermTail) (Placed Test) → Placed Tail
tail_step t s = go_on (t.term s) (λ x. Ok (roll-Tail (record { op = t.op; term = x })))

-- a factor behind its operator
abbrev pub term_tail_step : TermTail-F (Placed Factor) (Placed Neg) (Placed Both) (Placed Expr) (Placed Sum) (Placed Tail) (Placed Term) (Placed TermTail) (Placed Test) → Placed TermTail
term_tail_step t s = go_on (t.factor s) (λ x. Ok (roll-TermTail (record { op = t.op; factor = x })))

-- the right side of a comparison, where there is one
abbrev pub right_placed : Option (Compare × Placed Sum) → Placed (Option (Compare × Sum))
right_placed None s = Ok None
right_placed (Some right) s = go_on (right.1 s) (λ x. Ok (Some (right.0, x)))

-- a comparison
abbrev pub test_step : Test-F (Placed Factor) (Placed Neg) (Placed Both) (Placed Expr) (Placed Sum) (Placed Tail) (Placed Term) (Placed TermTail) (Placed Test) → Placed Test
test_step t s = go_on (t.left s) (λ x. go_on (right_placed t.right s) (λ y. Ok (roll-Test (record { left = x; right = y }))))

-- the factor with a place at each of its names, or its first fault
unfoldable pub factor : Factor → Placed Factor
factor = fold-Factor (Placed Factor) (Placed Neg) (Placed Both) (Placed Expr) (Placed Sum) (Placed Tail) (Placed Term) (Placed TermTail) (Placed Test) factor_step neg_step both_step expr_step sum_step tail_step term_step term_tail_step test_step

-- the negation or comparison with a place at each of its names, or its first fault
unfoldable pub neg : Neg → Placed Neg
neg = fold-Neg (Placed Factor) (Placed Neg) (Placed Both) (Placed Expr) (Placed Sum) (Placed Tail) (Placed Term) (Placed TermTail) (Placed Test) factor_step neg_step both_step expr_step sum_step tail_step term_step term_tail_step test_step

-- the operands of `and` with a place at each of their names, or their first fault
unfoldable pub both : Both → Placed Both
both = fold-Both (Placed Factor) (Placed Neg) (Placed Both) (Placed Expr) (Placed Sum) (Placed Tail) (Placed Term) (Placed TermTail) (Placed Test) factor_step neg_step both_step expr_step sum_step tail_step term_step term_tail_step test_step

-- the expression with a place at each of its names, or its first fault
unfoldable pub expr : Expr → Placed Expr
expr = fold-Expr (Placed Factor) (Placed Neg) (Placed Both) (Placed Expr) (Placed Sum) (Placed Tail) (Placed Term) (Placed TermTail) (Placed Test) factor_step neg_step both_step expr_step sum_step tail_step term_step term_tail_step test_step

-- the sum with a place at each of its names, or its first fault
unfoldable pub sum : Sum → Placed Sum
sum = fold-Sum (Placed Factor) (Placed Neg) (Placed Both) (Placed Expr) (Placed Sum) (Placed Tail) (Placed Term) (Placed TermTail) (Placed Test) factor_step neg_step both_step expr_step sum_step tail_step term_step term_tail_step test_step

-- the term behind its operator with a place at each of its names, or its first fault
unfoldable pub tail : Tail → Placed Tail
tail = fold-Tail (Placed Factor) (Placed Neg) (Placed Both) (Placed Expr) (Placed Sum) (Placed Tail) (Placed Term) (Placed TermTail) (Placed Test) factor_step neg_step both_step expr_step sum_step tail_step term_step term_tail_step test_step

-- the term with a place at each of its names, or its first fault
unfoldable pub term : Term → Placed Term
term = fold-Term (Placed Factor) (Placed Neg) (Placed Both) (Placed Expr) (Placed Sum) (Placed Tail) (Placed Term) (Placed TermTail) (Placed Test) factor_step neg_step both_step expr_step sum_step tail_step term_step term_tail_step test_step

-- the factor behind its operator with a place at each of its names, or its first fault
unfoldable pub term_tail : TermTail → Placed TermTail
term_tail = fold-TermTail (Placed Factor) (Placed Neg) (Placed Both) (Placed Expr) (Placed Sum) (Placed Tail) (Placed Term) (Placed TermTail) (Placed Test) factor_step neg_step both_step expr_step sum_step tail_step term_step term_tail_step test_step

-- the comparison with a place at each of its names, or its first fault
unfoldable pub test : Test → Placed Test
test = fold-Test (Placed Factor) (Placed Neg) (Placed Both) (Placed Expr) (Placed Sum) (Placed Tail) (Placed Term) (Placed TermTail) (Placed Test) factor_step neg_step both_step expr_step sum_step tail_step term_step term_tail_step test_step

-- the right side of a comparison, by what its sum becomes
abbrev pub right : Option (Compare × Sum) → Placed (Option (Compare × Sum))
right None s = Ok None
right (Some r) s = go_on (sum r.1 s) (λ x. Ok (Some (r.0, x)))

-- The equations of expressions: what each form of the tree becomes, by what its parts become.
use Rattle.std.proofs.Common.{◌≡◌, ℤ, map, Option, Some, None, Ok, refl, ap, ◌∙◌}
use Rattle.nys_tree.specs.declared.expr.Compare.{Compare}
use Rattle.nys_tree.specs.declared.name.Name.{Name}
use Rattle.nys_tree.specs.declared.expr.Factor.{Factor, fold_out-Factor, map-Factor}
use Rattle.nys_tree.specs.declared.expr.Neg.{Neg, fold_out-Neg, map-Neg}
use Rattle.nys_tree.specs.declared.expr.Both.{Both, fold_out-Both, out-Both, roll-Both}
use Rattle.nys_tree.specs.declared.expr.Expr.{Expr, fold_out-Expr, out-Expr, roll-Expr}
use Rattle.nys_tree.specs.declared.expr.Sum.{Sum, fold_out-Sum, out-Sum, roll-Sum}
use Rattle.nys_tree.specs.declared.expr.Tail.{Tail, fold_out-Tail, out-Tail, roll-Tail}
use Rattle.nys_tree.specs.declared.expr.Term.{Term, fold_out-Term, out-Term, roll-Term}
use Rattle.nys_tree.specs.declared.expr.TermTail.{TermTail, fold_out-TermTail, out-TermTail, roll-TermTail}
use Rattle.nys_tree.specs.declared.expr.Test.{Test, fold_out-Test, out-Test, map-Test, roll-Test}
use Rattle.nys_tree.specs.declared.expr.Factor.TheVariants as fv
use Rattle.nys_tree.specs.declared.expr.Neg.TheVariants as nv
use Rattle.nys_tree.specs.Bindings.{Bindings}
use Rattle.nys_names.specs.Names.{Placed, go_on, scalar, list}
use Rattle.nys_names.specs.Exprs.{all_placed, right, factor_step, neg_step, both_step, expr_step, sum_step, tail_step, term_step, term_tail_step, test_step, factor, neg, both, expr, sum, tail, term, term_tail, test}

-- a sum: its first term, then the terms behind their operators
pub sum_is : (t : Sum) (s : Bindings) → sum t s ≡ go_on (term (out-Sum t).first s) (λ x. go_on (all_placed (map tail (out-Sum t).rest) s) (λ xs. Ok (roll-Sum (record { first = x; rest = xs }))))
unfolding factor neg both expr sum tail term term_tail test
sum_is t s = ap (λ f. f s) (fold_out-Sum (Placed Factor) (Placed Neg) (Placed Both) (Placed Expr) (Placed Sum) (Placed Tail) (Placed Term) (Placed TermTail) (Placed Test) factor_step neg_step both_step expr_step sum_step tail_step term_step term_tail_step test_step t)

-- a term: its first factor, then the factors behind their operators
pub term_is : (t : Term) (s : Bindings) → term t s ≡ go_on (factor (out-Term t).first s) (λ x. go_on (all_placed (map term_tail (out-Term t).rest) s) (λ xs. Ok (roll-Term (record { first = x; rest = xs }))))
unfolding factor neg both expr sum tail term term_tail test
term_is t s = ap (λ f. f s) (fold_out-Term (Placed Factor) (Placed Neg) (Placed Both) (Placed Expr) (Placed Sum) (Placed Tail) (Placed Term) (Placed TermTail) (Placed Test) factor_step neg_step both_step expr_step sum_step tail_step term_step term_tail_step test_step t)

-- operands of `and`, from left to right
pub both_is : (t : Both) (s : Bindings) → both t s ≡ go_on (neg (out-Both t).first s) (λ x. go_on (all_placed (map neg (out-Both t).rest) s) (λ xs. Ok (roll-Both (record { first = x; rest = xs }))))
unfolding factor neg both expr sum tail term term_tail test
both_is t s = ap (λ f. f s) (fold_out-Both (Placed Factor) (Placed Neg) (Placed Both) (Placed Expr) (Placed Sum) (Placed Tail) (Placed Term) (Placed TermTail) (Placed Test) factor_step neg_step both_step expr_step sum_step tail_step term_step term_tail_step test_step t)

-- operands of `or`, from left to right
pub expr_is : (t : Expr) (s : Bindings) → expr t s ≡ go_on (both (out-Expr t).first s) (λ x. go_on (all_placed (map both (out-Expr t).rest) s) (λ xs. Ok (roll-Expr (record { first = x; rest = xs }))))
unfolding factor neg both expr sum tail term term_tail test
expr_is t s = ap (λ f. f s) (fold_out-Expr (Placed Factor) (Placed Neg) (Placed Both) (Placed Expr) (Placed Sum) (Placed Tail) (Placed Term) (Placed TermTail) (Placed Test) factor_step neg_step both_step expr_step sum_step tail_step term_step term_tail_step test_step t)

-- a term behind its operator keeps its operator
pub tail_is : (t : Tail) (s : Bindings) → tail t s ≡ go_on (term (out-Tail t).term s) (λ x. Ok (roll-Tail (record { op = (out-Tail t).op; term = x })))
unfolding factor neg both expr sum tail term term_tail test
tail_is t s = ap (λ f. f s) (fold_out-Tail (Placed Factor) (Placed Neg) (Placed Both) (Placed Expr) (Placed Sum) (Placed Tail) (Placed Term) (Placed TermTail) (Placed Test) factor_step neg_step both_step expr_step sum_step tail_step term_step term_tail_step test_step t)

-- a factor behind its operator keeps its operator
pub term_tail_is : (t : TermTail) (s : Bindings) → term_tail t s ≡ go_on (factor (out-TermTail t).factor s) (λ x. Ok (roll-TermTail (record { op = (out-TermTail t).op; factor = x })))
unfolding factor neg both expr sum tail term term_tail test
term_tail_is t s = ap (λ f. f s) (fold_out-TermTail (Placed Factor) (Placed Neg) (Placed Both) (Placed Expr) (Placed Sum) (Placed Tail) (Placed Term) (Placed TermTail) (Placed Test) factor_step neg_step both_step expr_step sum_step tail_step term_step term_tail_step test_step t)

-- the right side of a comparison is what its sum becomes, where there is one
test_right : (l : Sum) (o : Option (Compare × Sum)) (s : Bindings) → test_step (map-Test Factor Neg Both Expr Sum Tail Term TermTail Test (Placed Factor) (Placed Neg) (Placed Both) (Placed Expr) (Placed Sum) (Placed Tail) (Placed Term) (Placed TermTail) (Placed Test) factor neg both expr sum tail term term_tail test (record { left = l; right = o })) s ≡ go_on (sum l s) (λ x. go_on (right o s) (λ y. Ok (roll-Test (record { left = x; right = y }))))
test_right l None s = refl
test_right l (Some p) s = refl

-- a comparison: its left side, then its right side
pub test_is : (t : Test) (s : Bindings) → test t s ≡ go_on (sum (out-Test t).left s) (λ x. go_on (right (out-Test t).right s) (λ y. Ok (roll-Test (record { left = x; right = y }))))
unfolding factor neg both expr sum tail term term_tail test
test_is t s = ap (λ f. f s) (fold_out-Test (Placed Factor) (Placed Neg) (Placed Both) (Placed Expr) (Placed Sum) (Placed Tail) (Placed Term) (Placed TermTail) (Placed Test) factor_step neg_step both_step expr_step sum_step tail_step term_step term_tail_step test_step t) ∙ test_right (out-Test t).left (out-Test t).right s

-- a minus stays, before what its factor becomes
pub factor_minus : (a : Factor) (s : Bindings) → factor (fv.Minus a) s ≡ go_on (factor a s) (λ x. Ok (fv.Minus x))
unfolding factor neg both expr sum tail term term_tail test
factor_minus a s = ap (λ f. f s) (fold_out-Factor (Placed Factor) (Placed Neg) (Placed Both) (Placed Expr) (Placed Sum) (Placed Tail) (Placed Term) (Placed TermTail) (Placed Test) factor_step neg_step both_step expr_step sum_step tail_step term_step term_tail_step test_step (fv.Minus a) ∙ ap (λ d. factor_step (map-Factor Factor Neg Both Expr Sum Tail Term TermTail Test (Placed Factor) (Placed Neg) (Placed Both) (Placed Expr) (Placed Sum) (Placed Tail) (Placed Term) (Placed TermTail) (Placed Test) factor neg both expr sum tail term term_tail test d)) (fv.outs-Minus a))

-- a number has no names
pub factor_number : (z : ℤ) (s : Bindings) → factor (fv.Number z) s ≡ Ok (fv.Number z)
unfolding factor neg both expr sum tail term term_tail test
factor_number z s = ap (λ f. f s) (fold_out-Factor (Placed Factor) (Placed Neg) (Placed Both) (Placed Expr) (Placed Sum) (Placed Tail) (Placed Term) (Placed TermTail) (Placed Test) factor_step neg_step both_step expr_step sum_step tail_step term_step term_tail_step test_step (fv.Number z) ∙ ap (λ d. factor_step (map-Factor Factor Neg Both Expr Sum Tail Term TermTail Test (Placed Factor) (Placed Neg) (Placed Both) (Placed Expr) (Placed Sum) (Placed Tail) (Placed Term) (Placed TermTail) (Placed Test) factor neg both expr sum tail term term_tail test d)) (fv.outs-Number z))

-- `me` is no name
pub factor_me : (s : Bindings) → factor fv.Me s ≡ Ok fv.Me
unfolding factor neg both expr sum tail term term_tail test
factor_me s = ap (λ f. f s) (fold_out-Factor (Placed Factor) (Placed Neg) (Placed Both) (Placed Expr) (Placed Sum) (Placed Tail) (Placed Term) (Placed TermTail) (Placed Test) factor_step neg_step both_step expr_step sum_step tail_step term_step term_tail_step test_step fv.Me ∙ ap (λ d. factor_step (map-Factor Factor Neg Both Expr Sum Tail Term TermTail Test (Placed Factor) (Placed Neg) (Placed Both) (Placed Expr) (Placed Sum) (Placed Tail) (Placed Term) (Placed TermTail) (Placed Test) factor neg both expr sum tail term term_tail test d)) fv.outs-Me)

-- `hosts` is no name
pub factor_hosts : (s : Bindings) → factor fv.Hosts s ≡ Ok fv.Hosts
unfolding factor neg both expr sum tail term term_tail test
factor_hosts s = ap (λ f. f s) (fold_out-Factor (Placed Factor) (Placed Neg) (Placed Both) (Placed Expr) (Placed Sum) (Placed Tail) (Placed Term) (Placed TermTail) (Placed Test) factor_step neg_step both_step expr_step sum_step tail_step term_step term_tail_step test_step fv.Hosts ∙ ap (λ d. factor_step (map-Factor Factor Neg Both Expr Sum Tail Term TermTail Test (Placed Factor) (Placed Neg) (Placed Both) (Placed Expr) (Placed Sum) (Placed Tail) (Placed Term) (Placed TermTail) (Placed Test) factor neg both expr sum tail term term_tail test d)) fv.outs-Hosts)

-- `len` takes a list
pub factor_len : (name : Name) (s : Bindings) → factor (fv.Len name) s ≡ go_on (list name s) (λ n. Ok (fv.Len n))
unfolding factor neg both expr sum tail term term_tail test
factor_len name s = ap (λ f. f s) (fold_out-Factor (Placed Factor) (Placed Neg) (Placed Both) (Placed Expr) (Placed Sum) (Placed Tail) (Placed Term) (Placed TermTail) (Placed Test) factor_step neg_step both_step expr_step sum_step tail_step term_step term_tail_step test_step (fv.Len name) ∙ ap (λ d. factor_step (map-Factor Factor Neg Both Expr Sum Tail Term TermTail Test (Placed Factor) (Placed Neg) (Placed Both) (Placed Expr) (Placed Sum) (Placed Tail) (Placed Term) (Placed TermTail) (Placed Test) factor neg both expr sum tail term term_tail test d)) (fv.outs-Len name))

-- a name without an index is a scalar
pub factor_scalar : (name : Name) (s : Bindings) → factor (fv.Scalar name) s ≡ go_on (scalar name s) (λ n. Ok (fv.Scalar n))
unfolding factor neg both expr sum tail term term_tail test
factor_scalar name s = ap (λ f. f s) (fold_out-Factor (Placed Factor) (Placed Neg) (Placed Both) (Placed Expr) (Placed Sum) (Placed Tail) (Placed Term) (Placed TermTail) (Placed Test) factor_step neg_step both_step expr_step sum_step tail_step term_step term_tail_step test_step (fv.Scalar name) ∙ ap (λ d. factor_step (map-Factor Factor Neg Both Expr Sum Tail Term TermTail Test (Placed Factor) (Placed Neg) (Placed Both) (Placed Expr) (Placed Sum) (Placed Tail) (Placed Term) (Placed TermTail) (Placed Test) factor neg both expr sum tail term term_tail test d)) (fv.outs-Scalar name))

-- a name with an index is a list, and is tested before the index
pub factor_item : (name : Name) (a : Expr) (s : Bindings) → factor (fv.Item name a) s ≡ go_on (list name s) (λ n. go_on (expr a s) (λ i. Ok (fv.Item n i)))
unfolding factor neg both expr sum tail term term_tail test
factor_item name a s = ap (λ f. f s) (fold_out-Factor (Placed Factor) (Placed Neg) (Placed Both) (Placed Expr) (Placed Sum) (Placed Tail) (Placed Term) (Placed TermTail) (Placed Test) factor_step neg_step both_step expr_step sum_step tail_step term_step term_tail_step test_step (fv.Item name a) ∙ ap (λ d. factor_step (map-Factor Factor Neg Both Expr Sum Tail Term TermTail Test (Placed Factor) (Placed Neg) (Placed Both) (Placed Expr) (Placed Sum) (Placed Tail) (Placed Term) (Placed TermTail) (Placed Test) factor neg both expr sum tail term term_tail test d)) (fv.outs-Item name a))

-- parentheses stay, round what their expression becomes
pub factor_inner : (a : Expr) (s : Bindings) → factor (fv.Inner a) s ≡ go_on (expr a s) (λ x. Ok (fv.Inner x))
unfolding factor neg both expr sum tail term term_tail test
factor_inner a s = ap (λ f. f s) (fold_out-Factor (Placed Factor) (Placed Neg) (Placed Both) (Placed Expr) (Placed Sum) (Placed Tail) (Placed Term) (Placed TermTail) (Placed Test) factor_step neg_step both_step expr_step sum_step tail_step term_step term_tail_step test_step (fv.Inner a) ∙ ap (λ d. factor_step (map-Factor Factor Neg Both Expr Sum Tail Term TermTail Test (Placed Factor) (Placed Neg) (Placed Both) (Placed Expr) (Placed Sum) (Placed Tail) (Placed Term) (Placed TermTail) (Placed Test) factor neg both expr sum tail term term_tail test d)) (fv.outs-Inner a))

-- a `not` stays, before what its operand becomes
pub neg_not : (a : Neg) (s : Bindings) → neg (nv.Not a) s ≡ go_on (neg a s) (λ x. Ok (nv.Not x))
unfolding factor neg both expr sum tail term term_tail test
neg_not a s = ap (λ f. f s) (fold_out-Neg (Placed Factor) (Placed Neg) (Placed Both) (Placed Expr) (Placed Sum) (Placed Tail) (Placed Term) (Placed TermTail) (Placed Test) factor_step neg_step both_step expr_step sum_step tail_step term_step term_tail_step test_step (nv.Not a) ∙ ap (λ d. neg_step (map-Neg Factor Neg Both Expr Sum Tail Term TermTail Test (Placed Factor) (Placed Neg) (Placed Both) (Placed Expr) (Placed Sum) (Placed Tail) (Placed Term) (Placed TermTail) (Placed Test) factor neg both expr sum tail term term_tail test d)) (nv.outs-Not a))

-- without a `not`, there is the comparison alone
pub neg_plain : (a : Test) (s : Bindings) → neg (nv.Plain a) s ≡ go_on (test a s) (λ x. Ok (nv.Plain x))
unfolding factor neg both expr sum tail term term_tail test
neg_plain a s = ap (λ f. f s) (fold_out-Neg (Placed Factor) (Placed Neg) (Placed Both) (Placed Expr) (Placed Sum) (Placed Tail) (Placed Term) (Placed TermTail) (Placed Test) factor_step neg_step both_step expr_step sum_step tail_step term_step term_tail_step test_step (nv.Plain a) ∙ ap (λ d. neg_step (map-Neg Factor Neg Both Expr Sum Tail Term TermTail Test (Placed Factor) (Placed Neg) (Placed Both) (Placed Expr) (Placed Sum) (Placed Tail) (Placed Term) (Placed TermTail) (Placed Test) factor neg both expr sum tail term term_tail test d)) (nv.outs-Plain a))

-- The equations of the meaning: what each form of the tree gives, by what its parts give.
use Rattle.std.proofs.Common.{◌≡◌, ℕ, ℤ, pos, List, [], ◌∷◌, map, Option, Some, None, refl, ap, ◌∙◌}
use Rattle.nys_tree.specs.declared.expr.Compare.{Compare}
use Rattle.nys_tree.specs.declared.name.Name.{Name}
use Rattle.nys_tree.specs.declared.expr.Factor.{Factor, fold_out-Factor, map-Factor}
use Rattle.nys_tree.specs.declared.expr.Neg.{Neg, fold_out-Neg, map-Neg}
use Rattle.nys_tree.specs.declared.expr.Both.{Both, fold_out-Both, out-Both}
use Rattle.nys_tree.specs.declared.expr.Expr.{Expr, fold_out-Expr, out-Expr}
use Rattle.nys_tree.specs.declared.expr.Sum.{Sum, fold_out-Sum, out-Sum}
use Rattle.nys_tree.specs.declared.expr.Tail.{Tail, fold_out-Tail, out-Tail}
use Rattle.nys_tree.specs.declared.expr.Term.{Term, fold_out-Term, out-Term}
use Rattle.nys_tree.specs.declared.expr.TermTail.{TermTail, fold_out-TermTail, out-TermTail}
use Rattle.nys_tree.specs.declared.expr.Test.{Test, fold_out-Test, map-Test, out-Test}
use Rattle.nys_tree.specs.declared.expr.Factor.TheVariants as fv
use Rattle.nys_tree.specs.declared.expr.Neg.TheVariants as nv
use Rattle.nys_meaning.specs.declared.value.Value.{Value}
use Rattle.nys_meaning.specs.declared.here.Here.{Here}
use Rattle.nys_meaning.specs.Numbers.{added, multiplied}
use Rattle.nys_meaning.specs.Exprs.{Given, value, with_left, go_on, unit, Reads, negated, opposite, chain, Meaning, Onward, factor_step, neg_step, and_on, or_on, both_step, expr_step, sum_step, tail_step, term_step, term_tail_step, compared_to, test_step, expr, both, neg, test, sum, tail, term, term_tail, factor}

-- steps over what a level's parts give are steps over its parts
pub chain_map : {A B : Type 0} (step : B → Value → Given) (f : A → B) (x : Given) (xs : List A) → chain step x (map f xs) ≡ chain (λ a. step (f a)) x xs
chain_map step f None xs = refl
chain_map step f (Some x) [] = refl
chain_map step f (Some x) (a ∷ more) = chain_map step f (step (f a) x) more

module _ {E : Type 0} (r : Reads E) (h : Here) where
  pub sum_is : (t : Sum) (e : E) (n : ℕ) → sum r h t e n ≡ chain (λ a. tail r h a e) (term r h (out-Sum t).first e n) (out-Sum t).rest
  unfolding factor neg both expr sum tail term term_tail test
  sum_is t e n = ap (λ f. f e n) (fold_out-Sum (Meaning E) (Meaning E) (Meaning E) (Meaning E) (Meaning E) (Onward E) (Meaning E) (Onward E) (Meaning E) (factor_step r h) (neg_step r h) (both_step r h) (expr_step r h) (sum_step r h) (tail_step r h) (term_step r h) (term_tail_step r h) (test_step r h) t) ∙ chain_map (λ a. a e) (tail r h) _ (out-Sum t).rest

  -- what this level gives, by its parts
  pub term_is : (t : Term) (e : E) (n : ℕ) → term r h t e n ≡ chain (λ a. term_tail r h a e) (factor r h (out-Term t).first e n) (out-Term t).rest
  unfolding factor neg both expr sum tail term term_tail test
  term_is t e n = ap (λ f. f e n) (fold_out-Term (Meaning E) (Meaning E) (Meaning E) (Meaning E) (Meaning E) (Onward E) (Meaning E) (Onward E) (Meaning E) (factor_step r h) (neg_step r h) (both_step r h) (expr_step r h) (sum_step r h) (tail_step r h) (term_step r h) (term_tail_step r h) (test_step r h) t) ∙ chain_map (λ a. a e) (term_tail r h) _ (out-Term t).rest

  -- what this level gives, by its parts
  pub both_is : (t : Both) (e : E) (n : ℕ) → both r h t e n ≡ chain (λ a. and_on r h e (neg r h a)) (neg r h (out-Both t).first e n) (out-Both t).rest
  unfolding factor neg both expr sum tail term term_tail test
  both_is t e n = ap (λ f. f e n) (fold_out-Both (Meaning E) (Meaning E) (Meaning E) (Meaning E) (Meaning E) (Onward E) (Meaning E) (Onward E) (Meaning E) (factor_step r h) (neg_step r h) (both_step r h) (expr_step r h) (sum_step r h) (tail_step r h) (term_step r h) (term_tail_step r h) (test_step r h) t) ∙ chain_map (and_on r h e) (neg r h) _ (out-Both t).rest

  -- what this level gives, by its parts
  pub expr_is : (t : Expr) (e : E) (n : ℕ) → expr r h t e n ≡ chain (λ a. or_on r h e (both r h a)) (both r h (out-Expr t).first e n) (out-Expr t).rest
  unfolding factor neg both expr sum tail term term_tail test
  expr_is t e n = ap (λ f. f e n) (fold_out-Expr (Meaning E) (Meaning E) (Meaning E) (Meaning E) (Meaning E) (Onward E) (Meaning E) (Onward E) (Meaning E) (factor_step r h) (neg_step r h) (both_step r h) (expr_step r h) (sum_step r h) (tail_step r h) (term_step r h) (term_tail_step r h) (test_step r h) t) ∙ chain_map (or_on r h e) (both r h) _ (out-Expr t).rest

  -- what this level gives, by its parts
  pub tail_is : (t : Tail) (e : E) (x : Value) → tail r h t e x ≡ unit x.left (λ m. go_on (term r h (out-Tail t).term e m) (λ y. with_left y.left (added (out-Tail t).op x.number y.number)))
  unfolding factor neg both expr sum tail term term_tail test
  tail_is t e x = ap (λ f. f e x) (fold_out-Tail (Meaning E) (Meaning E) (Meaning E) (Meaning E) (Meaning E) (Onward E) (Meaning E) (Onward E) (Meaning E) (factor_step r h) (neg_step r h) (both_step r h) (expr_step r h) (sum_step r h) (tail_step r h) (term_step r h) (term_tail_step r h) (test_step r h) t)

  -- what this level gives, by its parts
  pub term_tail_is : (t : TermTail) (e : E) (x : Value) → term_tail r h t e x ≡ unit x.left (λ m. go_on (factor r h (out-TermTail t).factor e m) (λ y. with_left y.left (multiplied (out-TermTail t).op x.number y.number)))
  unfolding factor neg both expr sum tail term term_tail test
  term_tail_is t e x = ap (λ f. f e x) (fold_out-TermTail (Meaning E) (Meaning E) (Meaning E) (Meaning E) (Meaning E) (Onward E) (Meaning E) (Onward E) (Meaning E) (factor_step r h) (neg_step r h) (both_step r h) (expr_step r h) (sum_step r h) (tail_step r h) (term_step r h) (term_tail_step r h) (test_step r h) t)

  -- the right side of a comparison, by what its sum gives
  test_right : (l : Sum) (o : Option (Compare × Sum)) (e : E) (n : ℕ) → test_step r h (map-Test Factor Neg Both Expr Sum Tail Term TermTail Test (Meaning E) (Meaning E) (Meaning E) (Meaning E) (Meaning E) (Onward E) (Meaning E) (Onward E) (Meaning E) (factor r h) (neg r h) (both r h) (expr r h) (sum r h) (tail r h) (term r h) (term_tail r h) (test r h) (record { left = l; right = o })) e n ≡ go_on (sum r h l e n) (compared_to r h o e)
  test_right l None e n = refl
  test_right l (Some p) e n = refl

  -- what this level gives, by its parts
  pub test_is : (t : Test) (e : E) (n : ℕ) → test r h t e n ≡ go_on (sum r h (out-Test t).left e n) (compared_to r h (out-Test t).right e)
  unfolding factor neg both expr sum tail term term_tail test
  test_is t e n = ap (λ f. f e n) (fold_out-Test (Meaning E) (Meaning E) (Meaning E) (Meaning E) (Meaning E) (Onward E) (Meaning E) (Onward E) (Meaning E) (factor_step r h) (neg_step r h) (both_step r h) (expr_step r h) (sum_step r h) (tail_step r h) (term_step r h) (term_tail_step r h) (test_step r h) t) ∙ test_right (out-Test t).left (out-Test t).right e n

  -- what this form gives, by its parts
  pub factor_minus : (a : Factor) (e : E) (n : ℕ) → factor r h (fv.Minus a) e n ≡ unit n (λ m. go_on (factor r h a e m) negated)
  unfolding factor neg both expr sum tail term term_tail test
  factor_minus a e n = ap (λ f. f e n) (fold_out-Factor (Meaning E) (Meaning E) (Meaning E) (Meaning E) (Meaning E) (Onward E) (Meaning E) (Onward E) (Meaning E) (factor_step r h) (neg_step r h) (both_step r h) (expr_step r h) (sum_step r h) (tail_step r h) (term_step r h) (term_tail_step r h) (test_step r h) (fv.Minus a) ∙ ap (λ d. factor_step r h (map-Factor Factor Neg Both Expr Sum Tail Term TermTail Test (Meaning E) (Meaning E) (Meaning E) (Meaning E) (Meaning E) (Onward E) (Meaning E) (Onward E) (Meaning E) (factor r h) (neg r h) (both r h) (expr r h) (sum r h) (tail r h) (term r h) (term_tail r h) (test r h) d)) (fv.outs-Minus a))

  -- what this form gives, by its parts
  pub factor_number : (z : ℤ) (e : E) (n : ℕ) → factor r h (fv.Number z) e n ≡ unit n (λ m. Some (value z m))
  unfolding factor neg both expr sum tail term term_tail test
  factor_number z e n = ap (λ f. f e n) (fold_out-Factor (Meaning E) (Meaning E) (Meaning E) (Meaning E) (Meaning E) (Onward E) (Meaning E) (Onward E) (Meaning E) (factor_step r h) (neg_step r h) (both_step r h) (expr_step r h) (sum_step r h) (tail_step r h) (term_step r h) (term_tail_step r h) (test_step r h) (fv.Number z) ∙ ap (λ d. factor_step r h (map-Factor Factor Neg Both Expr Sum Tail Term TermTail Test (Meaning E) (Meaning E) (Meaning E) (Meaning E) (Meaning E) (Onward E) (Meaning E) (Onward E) (Meaning E) (factor r h) (neg r h) (both r h) (expr r h) (sum r h) (tail r h) (term r h) (term_tail r h) (test r h) d)) (fv.outs-Number z))

  -- what this form gives, by its parts
  pub factor_me : (e : E) (n : ℕ) → factor r h fv.Me e n ≡ unit n (λ m. Some (value (pos h.me) m))
  unfolding factor neg both expr sum tail term term_tail test
  factor_me e n = ap (λ f. f e n) (fold_out-Factor (Meaning E) (Meaning E) (Meaning E) (Meaning E) (Meaning E) (Onward E) (Meaning E) (Onward E) (Meaning E) (factor_step r h) (neg_step r h) (both_step r h) (expr_step r h) (sum_step r h) (tail_step r h) (term_step r h) (term_tail_step r h) (test_step r h) fv.Me ∙ ap (λ d. factor_step r h (map-Factor Factor Neg Both Expr Sum Tail Term TermTail Test (Meaning E) (Meaning E) (Meaning E) (Meaning E) (Meaning E) (Onward E) (Meaning E) (Onward E) (Meaning E) (factor r h) (neg r h) (both r h) (expr r h) (sum r h) (tail r h) (term r h) (term_tail r h) (test r h) d)) fv.outs-Me)

  -- what this form gives, by its parts
  pub factor_hosts : (e : E) (n : ℕ) → factor r h fv.Hosts e n ≡ unit n (λ m. Some (value (pos h.hosts) m))
  unfolding factor neg both expr sum tail term term_tail test
  factor_hosts e n = ap (λ f. f e n) (fold_out-Factor (Meaning E) (Meaning E) (Meaning E) (Meaning E) (Meaning E) (Onward E) (Meaning E) (Onward E) (Meaning E) (factor_step r h) (neg_step r h) (both_step r h) (expr_step r h) (sum_step r h) (tail_step r h) (term_step r h) (term_tail_step r h) (test_step r h) fv.Hosts ∙ ap (λ d. factor_step r h (map-Factor Factor Neg Both Expr Sum Tail Term TermTail Test (Meaning E) (Meaning E) (Meaning E) (Meaning E) (Meaning E) (Onward E) (Meaning E) (Onward E) (Meaning E) (factor r h) (neg r h) (both r h) (expr r h) (sum r h) (tail r h) (term r h) (term_tail r h) (test r h) d)) fv.outs-Hosts)

  -- what this form gives, by its parts
  pub factor_len : (name : Name) (e : E) (n : ℕ) → factor r h (fv.Len name) e n ≡ unit n (λ m. with_left m (r.len e name))
  unfolding factor neg both expr sum tail term term_tail test
  factor_len name e n = ap (λ f. f e n) (fold_out-Factor (Meaning E) (Meaning E) (Meaning E) (Meaning E) (Meaning E) (Onward E) (Meaning E) (Onward E) (Meaning E) (factor_step r h) (neg_step r h) (both_step r h) (expr_step r h) (sum_step r h) (tail_step r h) (term_step r h) (term_tail_step r h) (test_step r h) (fv.Len name) ∙ ap (λ d. factor_step r h (map-Factor Factor Neg Both Expr Sum Tail Term TermTail Test (Meaning E) (Meaning E) (Meaning E) (Meaning E) (Meaning E) (Onward E) (Meaning E) (Onward E) (Meaning E) (factor r h) (neg r h) (both r h) (expr r h) (sum r h) (tail r h) (term r h) (term_tail r h) (test r h) d)) (fv.outs-Len name))

  -- what this form gives, by its parts
  pub factor_scalar : (name : Name) (e : E) (n : ℕ) → factor r h (fv.Scalar name) e n ≡ unit n (λ m. with_left m (r.scalar e name))
  unfolding factor neg both expr sum tail term term_tail test
  factor_scalar name e n = ap (λ f. f e n) (fold_out-Factor (Meaning E) (Meaning E) (Meaning E) (Meaning E) (Meaning E) (Onward E) (Meaning E) (Onward E) (Meaning E) (factor_step r h) (neg_step r h) (both_step r h) (expr_step r h) (sum_step r h) (tail_step r h) (term_step r h) (term_tail_step r h) (test_step r h) (fv.Scalar name) ∙ ap (λ d. factor_step r h (map-Factor Factor Neg Both Expr Sum Tail Term TermTail Test (Meaning E) (Meaning E) (Meaning E) (Meaning E) (Meaning E) (Onward E) (Meaning E) (Onward E) (Meaning E) (factor r h) (neg r h) (both r h) (expr r h) (sum r h) (tail r h) (term r h) (term_tail r h) (test r h) d)) (fv.outs-Scalar name))

  -- what this form gives, by its parts
  pub factor_item : (name : Name) (a : Expr) (e : E) (n : ℕ) → factor r h (fv.Item name a) e n ≡ unit n (λ m. go_on (expr r h a e m) (λ x. with_left x.left (r.item e name x.number)))
  unfolding factor neg both expr sum tail term term_tail test
  factor_item name a e n = ap (λ f. f e n) (fold_out-Factor (Meaning E) (Meaning E) (Meaning E) (Meaning E) (Meaning E) (Onward E) (Meaning E) (Onward E) (Meaning E) (factor_step r h) (neg_step r h) (both_step r h) (expr_step r h) (sum_step r h) (tail_step r h) (term_step r h) (term_tail_step r h) (test_step r h) (fv.Item name a) ∙ ap (λ d. factor_step r h (map-Factor Factor Neg Both Expr Sum Tail Term TermTail Test (Meaning E) (Meaning E) (Meaning E) (Meaning E) (Meaning E) (Onward E) (Meaning E) (Onward E) (Meaning E) (factor r h) (neg r h) (both r h) (expr r h) (sum r h) (tail r h) (term r h) (term_tail r h) (test r h) d)) (fv.outs-Item name a))

  -- what this form gives, by its parts
  pub factor_inner : (a : Expr) (e : E) (n : ℕ) → factor r h (fv.Inner a) e n ≡ expr r h a e n
  unfolding factor neg both expr sum tail term term_tail test
  factor_inner a e n = ap (λ f. f e n) (fold_out-Factor (Meaning E) (Meaning E) (Meaning E) (Meaning E) (Meaning E) (Onward E) (Meaning E) (Onward E) (Meaning E) (factor_step r h) (neg_step r h) (both_step r h) (expr_step r h) (sum_step r h) (tail_step r h) (term_step r h) (term_tail_step r h) (test_step r h) (fv.Inner a) ∙ ap (λ d. factor_step r h (map-Factor Factor Neg Both Expr Sum Tail Term TermTail Test (Meaning E) (Meaning E) (Meaning E) (Meaning E) (Meaning E) (Onward E) (Meaning E) (Onward E) (Meaning E) (factor r h) (neg r h) (both r h) (expr r h) (sum r h) (tail r h) (term r h) (term_tail r h) (test r h) d)) (fv.outs-Inner a))

  -- what this form gives, by its parts
  pub neg_not : (a : Neg) (e : E) (n : ℕ) → neg r h (nv.Not a) e n ≡ unit n (λ m. go_on (neg r h a e m) opposite)
  unfolding factor neg both expr sum tail term term_tail test
  neg_not a e n = ap (λ f. f e n) (fold_out-Neg (Meaning E) (Meaning E) (Meaning E) (Meaning E) (Meaning E) (Onward E) (Meaning E) (Onward E) (Meaning E) (factor_step r h) (neg_step r h) (both_step r h) (expr_step r h) (sum_step r h) (tail_step r h) (term_step r h) (term_tail_step r h) (test_step r h) (nv.Not a) ∙ ap (λ d. neg_step r h (map-Neg Factor Neg Both Expr Sum Tail Term TermTail Test (Meaning E) (Meaning E) (Meaning E) (Meaning E) (Meaning E) (Onward E) (Meaning E) (Onward E) (Meaning E) (factor r h) (neg r h) (both r h) (expr r h) (sum r h) (tail r h) (term r h) (term_tail r h) (test r h) d)) (nv.outs-Not a))

  -- what this form gives, by its parts
  pub neg_plain : (a : Test) (e : E) (n : ℕ) → neg r h (nv.Plain a) e n ≡ test r h a e n
  unfolding factor neg both expr sum tail term term_tail test
  neg_plain a e n = ap (λ f. f e n) (fold_out-Neg (Meaning E) (Meaning E) (Meaning E) (Meaning E) (Meaning E) (Onward E) (Meaning E) (Onward E) (Meaning E) (factor_step r h) (neg_step r h) (both_step r h) (expr_step r h) (sum_step r h) (tail_step r h) (term_step r h) (term_tail_step r h) (test_step r h) (nv.Plain a) ∙ ap (λ d. neg_step r h (map-Neg Factor Neg Both Expr Sum Tail Term TermTail Test (Meaning E) (Meaning E) (Meaning E) (Meaning E) (Meaning E) (Onward E) (Meaning E) (Onward E) (Meaning E) (factor r h) (neg r h) (both r h) (expr r h) (sum r h) (tail r h) (term r h) (term_tail r h) (test r h) d)) (nv.outs-Plain a))

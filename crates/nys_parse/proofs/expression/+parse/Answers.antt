use Rattle.std.proofs.Common.{◌≡◌, ◌∙◌, sym, ap, rules, arith, Err}
use Rattle.std.proofs.lemmas.Grind.{common_steps}
use Rattle.nys_parse.specs.Parsing.{many, all_of}
use Rattle.nys_parse.specs.Expressions as spec
use Rattle.nys_parse.specs.Expressions.{deeper_of, factors, terms, negs, boths}
use Rattle.nys_parse.proofs.Turns.{one_more, no_more, deeper}
use Rattle.nys_parse.proofs.expression.+parse.Goals as goal

-- no level is left
pub inner_expr-returns-then-depth-eq0 : goal.inner_expr-returns-then-depth-eq0
unfolding deeper_of
inner_expr-returns-then-depth-eq0 t c _ = let none : c.args.depth ≡ 0 = omega arith in ap (λ n. (deeper_of n).expr c.args.tokens.now) none ∙ sym (ap Err c.deep.ensures)

-- a level is left, which the token takes
pub inner_expr-returns : goal.inner_expr-returns
unfolding deeper_of
inner_expr-returns t c = rw (deeper (λ n. (deeper_of n).expr c.args.tokens.now) c.args.depth (omega arith), ← c.behind.ensures) c.expr.ensures

-- no level is left
pub inner_factor-returns-then-depth-eq0 : goal.inner_factor-returns-then-depth-eq0
unfolding deeper_of
inner_factor-returns-then-depth-eq0 t c _ = let none : c.args.depth ≡ 0 = omega arith in ap (λ n. (deeper_of n).factor c.args.tokens.now) none ∙ sym (ap Err c.deep.ensures)

-- a level is left, which the token takes
pub inner_factor-returns : goal.inner_factor-returns
unfolding deeper_of
inner_factor-returns t c = rw (deeper (λ n. (deeper_of n).factor c.args.tokens.now) c.args.depth (omega arith), ← c.behind.ensures) c.factor.ensures

-- no level is left
pub inner_neg-returns-then-depth-eq0 : goal.inner_neg-returns-then-depth-eq0
unfolding deeper_of
inner_neg-returns-then-depth-eq0 t c _ = let none : c.args.depth ≡ 0 = omega arith in ap (λ n. (deeper_of n).neg c.args.tokens.now) none ∙ sym (ap Err c.deep.ensures)

-- a level is left, which the token takes
pub inner_neg-returns : goal.inner_neg-returns
unfolding deeper_of
inner_neg-returns t c = rw (deeper (λ n. (deeper_of n).neg c.args.tokens.now) c.args.depth (omega arith), ← c.behind.ensures) c.neg.ensures

-- a list goes on as its rule for one more says
pub factors-loop-turn-init : goal.factors-loop-turn-init
unfolding factors all_of
factors-loop-turn-init t c = first_of (search rules, grind (arith, common_steps))

pub factors-returns-in_err-more : goal.factors-returns-in_err-more
unfolding many
factors-returns-in_err-more t c =
    let e = one_more (λ n. many (spec.next_factor (deeper_of c.args.depth)) n c.loop-turn.found c.loop-turn.left.now) _ c.loop-turn._turn c.loop-turn-test.true c.loop-turn.invariant in
    first_of (search rules, grind (arith, common_steps))

pub factors-returns-in-None : goal.factors-returns-in-None
unfolding many
factors-returns-in-None t c =
    let e = one_more (λ n. many (spec.next_factor (deeper_of c.args.depth)) n c.loop-turn.found c.loop-turn.left.now) _ c.loop-turn._turn c.loop-turn-test.true c.loop-turn.invariant in
    first_of (search rules, grind (arith, common_steps))

pub factors-loop-turn-preserved : goal.factors-loop-turn-preserved
unfolding many
factors-loop-turn-preserved t c =
    let e = one_more (λ n. many (spec.next_factor (deeper_of c.args.depth)) n c.loop-turn.found c.loop-turn.left.now) _ c.loop-turn._turn c.loop-turn-test.true c.loop-turn.invariant in
    first_of (search rules, grind (arith, common_steps))

pub factors-returns : goal.factors-returns
unfolding many
factors-returns t c =
    let e = no_more (λ n. many (spec.next_factor (deeper_of c.args.depth)) n c.loop-turn.found c.loop-turn.left.now) _ c.loop-turn._turn c.loop-turn-test.false c.loop-turn.invariant in
    first_of (search rules, grind (arith, common_steps))

-- a list goes on as its rule for one more says
pub terms-loop-turn-init : goal.terms-loop-turn-init
unfolding terms all_of
terms-loop-turn-init t c = first_of (search rules, grind (arith, common_steps))

pub terms-returns-in_err-more : goal.terms-returns-in_err-more
unfolding many
terms-returns-in_err-more t c =
    let e = one_more (λ n. many (spec.next_term (deeper_of c.args.depth)) n c.loop-turn.found c.loop-turn.left.now) _ c.loop-turn._turn c.loop-turn-test.true c.loop-turn.invariant in
    first_of (search rules, grind (arith, common_steps))

pub terms-returns-in-None : goal.terms-returns-in-None
unfolding many
terms-returns-in-None t c =
    let e = one_more (λ n. many (spec.next_term (deeper_of c.args.depth)) n c.loop-turn.found c.loop-turn.left.now) _ c.loop-turn._turn c.loop-turn-test.true c.loop-turn.invariant in
    first_of (search rules, grind (arith, common_steps))

pub terms-loop-turn-preserved : goal.terms-loop-turn-preserved
unfolding many
terms-loop-turn-preserved t c =
    let e = one_more (λ n. many (spec.next_term (deeper_of c.args.depth)) n c.loop-turn.found c.loop-turn.left.now) _ c.loop-turn._turn c.loop-turn-test.true c.loop-turn.invariant in
    first_of (search rules, grind (arith, common_steps))

pub terms-returns : goal.terms-returns
unfolding many
terms-returns t c =
    let e = no_more (λ n. many (spec.next_term (deeper_of c.args.depth)) n c.loop-turn.found c.loop-turn.left.now) _ c.loop-turn._turn c.loop-turn-test.false c.loop-turn.invariant in
    first_of (search rules, grind (arith, common_steps))

-- a list goes on as its rule for one more says
pub negs-loop-turn-init : goal.negs-loop-turn-init
unfolding negs all_of
negs-loop-turn-init t c = first_of (search rules, grind (arith, common_steps))

pub negs-returns-in_err-more : goal.negs-returns-in_err-more
unfolding many
negs-returns-in_err-more t c =
    let e = one_more (λ n. many (spec.next_neg (deeper_of c.args.depth)) n c.loop-turn.found c.loop-turn.left.now) _ c.loop-turn._turn c.loop-turn-test.true c.loop-turn.invariant in
    first_of (search rules, grind (arith, common_steps))

pub negs-returns-in-None : goal.negs-returns-in-None
unfolding many
negs-returns-in-None t c =
    let e = one_more (λ n. many (spec.next_neg (deeper_of c.args.depth)) n c.loop-turn.found c.loop-turn.left.now) _ c.loop-turn._turn c.loop-turn-test.true c.loop-turn.invariant in
    first_of (search rules, grind (arith, common_steps))

pub negs-loop-turn-preserved : goal.negs-loop-turn-preserved
unfolding many
negs-loop-turn-preserved t c =
    let e = one_more (λ n. many (spec.next_neg (deeper_of c.args.depth)) n c.loop-turn.found c.loop-turn.left.now) _ c.loop-turn._turn c.loop-turn-test.true c.loop-turn.invariant in
    first_of (search rules, grind (arith, common_steps))

pub negs-returns : goal.negs-returns
unfolding many
negs-returns t c =
    let e = no_more (λ n. many (spec.next_neg (deeper_of c.args.depth)) n c.loop-turn.found c.loop-turn.left.now) _ c.loop-turn._turn c.loop-turn-test.false c.loop-turn.invariant in
    first_of (search rules, grind (arith, common_steps))

-- a list goes on as its rule for one more says
pub boths-loop-turn-init : goal.boths-loop-turn-init
unfolding boths all_of
boths-loop-turn-init t c = first_of (search rules, grind (arith, common_steps))

pub boths-returns-in_err-more : goal.boths-returns-in_err-more
unfolding many
boths-returns-in_err-more t c =
    let e = one_more (λ n. many (spec.next_both (deeper_of c.args.depth)) n c.loop-turn.found c.loop-turn.left.now) _ c.loop-turn._turn c.loop-turn-test.true c.loop-turn.invariant in
    first_of (search rules, grind (arith, common_steps))

pub boths-returns-in-None : goal.boths-returns-in-None
unfolding many
boths-returns-in-None t c =
    let e = one_more (λ n. many (spec.next_both (deeper_of c.args.depth)) n c.loop-turn.found c.loop-turn.left.now) _ c.loop-turn._turn c.loop-turn-test.true c.loop-turn.invariant in
    first_of (search rules, grind (arith, common_steps))

pub boths-loop-turn-preserved : goal.boths-loop-turn-preserved
unfolding many
boths-loop-turn-preserved t c =
    let e = one_more (λ n. many (spec.next_both (deeper_of c.args.depth)) n c.loop-turn.found c.loop-turn.left.now) _ c.loop-turn._turn c.loop-turn-test.true c.loop-turn.invariant in
    first_of (search rules, grind (arith, common_steps))

pub boths-returns : goal.boths-returns
unfolding many
boths-returns t c =
    let e = no_more (λ n. many (spec.next_both (deeper_of c.args.depth)) n c.loop-turn.found c.loop-turn.left.now) _ c.loop-turn._turn c.loop-turn-test.false c.loop-turn.invariant in
    first_of (search rules, grind (arith, common_steps))

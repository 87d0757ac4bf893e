use Rattle.std.proofs.Common.{◌≡◌, ◌+◌, ◌-◌, ◌*◌}
use Rattle.nys_parse.specs.Parsing.{many}
use Rattle.nys_parse.specs.Expressions as spec
use Rattle.nys_parse.proofs.expression.+parse.Given as goal

-- each function calls those below it at the same depth, and those above it at one level less
abbrev pub decreases-inner_expr : goal.decreases-inner_expr
decreases-inner_expr l = 32 * l.depth

abbrev pub decreases-inner_factor : goal.decreases-inner_factor
decreases-inner_factor l = 32 * l.depth

abbrev pub decreases-inner_neg : goal.decreases-inner_neg
decreases-inner_neg l = 32 * l.depth

abbrev pub decreases-bracketed : goal.decreases-bracketed
decreases-bracketed l = 32 * l.depth + 1

abbrev pub decreases-named : goal.decreases-named
decreases-named l = 32 * l.depth + 2

abbrev pub decreases-inner : goal.decreases-inner
decreases-inner l = 32 * l.depth + 2

abbrev pub decreases-plain : goal.decreases-plain
decreases-plain l = 32 * l.depth + 3

abbrev pub decreases-factor : goal.decreases-factor
decreases-factor l = 32 * l.depth + 4

abbrev pub decreases-next_factor : goal.decreases-next_factor
decreases-next_factor l = 32 * l.depth + 5

abbrev pub decreases-factors : goal.decreases-factors
decreases-factors l = 32 * l.depth + 6

abbrev pub decreases-term : goal.decreases-term
decreases-term l = 32 * l.depth + 7

abbrev pub decreases-next_term : goal.decreases-next_term
decreases-next_term l = 32 * l.depth + 8

abbrev pub decreases-terms : goal.decreases-terms
decreases-terms l = 32 * l.depth + 9

abbrev pub decreases-sum : goal.decreases-sum
decreases-sum l = 32 * l.depth + 10

abbrev pub decreases-next_sum : goal.decreases-next_sum
decreases-next_sum l = 32 * l.depth + 11

abbrev pub decreases-test : goal.decreases-test
decreases-test l = 32 * l.depth + 12

abbrev pub decreases-neg : goal.decreases-neg
decreases-neg l = 32 * l.depth + 13

abbrev pub decreases-next_neg : goal.decreases-next_neg
decreases-next_neg l = 32 * l.depth + 14

abbrev pub decreases-negs : goal.decreases-negs
decreases-negs l = 32 * l.depth + 15

abbrev pub decreases-both : goal.decreases-both
decreases-both l = 32 * l.depth + 16

abbrev pub decreases-next_both : goal.decreases-next_both
decreases-next_both l = 32 * l.depth + 17

abbrev pub decreases-boths : goal.decreases-boths
decreases-boths l = 32 * l.depth + 18

abbrev pub decreases-expr : goal.decreases-expr
decreases-expr l = 32 * l.depth + 19

-- what is left of a list, from what was found so far, gives what the whole list gives
abbrev pub invariant-factors-loop-turn : goal.invariant-factors-loop-turn
invariant-factors-loop-turn l =
    spec.factors (spec.deeper_of l.depth) l.fn.tokens ≡ many (spec.next_factor (spec.deeper_of l.depth)) (l._turn-end - l._turn) l.found l.left

abbrev pub invariant-terms-loop-turn : goal.invariant-terms-loop-turn
invariant-terms-loop-turn l =
    spec.terms (spec.deeper_of l.depth) l.fn.tokens ≡ many (spec.next_term (spec.deeper_of l.depth)) (l._turn-end - l._turn) l.found l.left

abbrev pub invariant-negs-loop-turn : goal.invariant-negs-loop-turn
invariant-negs-loop-turn l =
    spec.negs (spec.deeper_of l.depth) l.fn.tokens ≡ many (spec.next_neg (spec.deeper_of l.depth)) (l._turn-end - l._turn) l.found l.left

abbrev pub invariant-boths-loop-turn : goal.invariant-boths-loop-turn
invariant-boths-loop-turn l =
    spec.boths (spec.deeper_of l.depth) l.fn.tokens ≡ many (spec.next_both (spec.deeper_of l.depth)) (l._turn-end - l._turn) l.found l.left

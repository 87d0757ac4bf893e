-- the first number that is left is added, and the others are left
use Rattle.std.proofs.Common.{◌≡◌, ◌+◌, drop, ap, sym, ◌∙◌}
use Rattle.nys_native.specs.Sums.{sum_on}
use Rattle.nys_native.proofs.SumLemmas.{sum_on-drop}
use Rattle.nys_native.proofs.sum.added.Goals as goal

pub loop-number-preserved : goal.loop-number-preserved
loop-number-preserved c =
    ap (λ o. sum_on o (drop (c.loop-number.number-index + 1) c.args.numbers.now)) c.in_ok-sum.ensures
    ∙ sym (sum_on-drop c.loop-number.sum c.args.numbers.now c.loop-number.number-index c.loop-number-test.true)
    ∙ c.loop-number.invariant

pub returns-in_err-sum : goal.returns-in_err-sum
returns-in_err-sum c =
    c.from_residual.ensures
    ∙ ap (λ o. sum_on o (drop (c.loop-number.number-index + 1) c.args.numbers.now)) c.in_err-sum.ensures
    ∙ sym (sum_on-drop c.loop-number.sum c.args.numbers.now c.loop-number.number-index c.loop-number-test.true)
    ∙ c.loop-number.invariant

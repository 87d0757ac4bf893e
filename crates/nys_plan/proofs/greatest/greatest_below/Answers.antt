-- The greater of the greatest so far and of the next host's threshold.
use Rattle.std.proofs.Common.{◌<◌, arith, refl, slice_index_or}
use Rattle.nys_guards.specs.Good.{threshold_in}
use Rattle.nys_plan.proofs.GreatestLemmas.{greatest_all, greatest_first, greatest_more}
use Rattle.nys_plan.proofs.greatest.greatest_below.Goals as goal

pub loop-h-init : goal.loop-h-init
unfolding threshold_in
loop-h-init c =
    greatest_first (threshold_in c.args.t.now) (λ h. h < c.args.n) 0 (slice_index_or c.args.t.now 0 0)
    (omega (arith, c.requires.some)) refl

pub loop-h-preserved : goal.loop-h-preserved
unfolding threshold_in
loop-h-preserved c =
    greatest_more (threshold_in c.args.t.now) (λ h. h < c.args.n) c.loop-h.h c.loop-h.greatest c.max-greatest.result
    c.loop-h.invariant c.loop-h-test.true c.max-greatest.ensures

pub returns-clause-most : goal.returns-clause-most
returns-clause-most c =
    greatest_all (threshold_in c.args.t.now) (λ h. h < c.args.n) c.loop-h.h c.loop-h.greatest
    (λ h below. omega (arith, below, c.loop-h-test.false)) c.loop-h.invariant

pub returns-clause-small : goal.returns-clause-small
returns-clause-small c =
    omega (arith, c.loop-h.invariant.same, c.requires.small c.loop-h.invariant.host)

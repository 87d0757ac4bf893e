-- the greatest threshold of the hosts so far
use Rattle.std.proofs.Common.{◌<◌}
use Rattle.nys_guards.specs.Good.{threshold_in}
use Rattle.nys_plan.proofs.GreatestLemmas.{IsGreatestSoFar}
use Rattle.nys_plan.proofs.greatest.greatest_below.Given as goal

abbrev pub invariant-loop-h : goal.invariant-loop-h
invariant-loop-h l = IsGreatestSoFar (threshold_in l.t) (λ h. h < l.n) l.h l.greatest

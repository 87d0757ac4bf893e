-- the greatest threshold of the set's hosts so far
use Rattle.std.proofs.Common.{◌≡◌, true}
use Rattle.nys_hosts.specs.Sets.{has}
use Rattle.nys_guards.specs.Good.{threshold_in}
use Rattle.nys_plan.proofs.GreatestLemmas.{IsGreatestSoFar}
use Rattle.nys_plan.proofs.greatest.greatest_in.Given as goal

abbrev pub invariant-loop-g : goal.invariant-loop-g
invariant-loop-g l = IsGreatestSoFar (threshold_in l.t) (λ g. has l.set g ≡ true) l.g l.greatest

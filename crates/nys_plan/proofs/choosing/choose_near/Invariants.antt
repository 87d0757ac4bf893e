-- the hosts of the component so far, as many as are needed
use Rattle.nys_hosts.specs.Sets.{has}
use Rattle.nys_plan.specs.Planned.{hosts_passing, IsFirst}
use Rattle.nys_plan.proofs.choosing.choose_near.Given as goal

abbrev pub invariant-loop-g : goal.invariant-loop-g
invariant-loop-g l = IsFirst l.need (hosts_passing (has l.near) l.g) (has l.chosen)

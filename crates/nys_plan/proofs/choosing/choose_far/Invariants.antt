-- the hosts of the component and the others so far, as many as are needed
use Rattle.std.proofs.Common.{◌++◌, not}
use Rattle.nys_hosts.specs.Sets.{has}
use Rattle.nys_plan.specs.Planned.{hosts_passing, IsFirst}
use Rattle.nys_plan.proofs.choosing.choose_far.Given as goal

abbrev pub invariant-loop-g : goal.invariant-loop-g
invariant-loop-g l =
    IsFirst l.need (hosts_passing (has l.near) l.n ++ hosts_passing (λ h. not (has l.near h)) l.g)
    (has l.chosen)

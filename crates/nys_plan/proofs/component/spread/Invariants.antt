-- the hosts looked at are added where the set touches them
use Rattle.std.proofs.Common.{◌≡◌, ℕ, ◌&&◌, ◌||◌, nat_lt}
use Rattle.nys_hosts.specs.Sets.{has}
use Rattle.nys_graph.specs.Links.{linked_in}
use Rattle.nys_plan.specs.Walks.{touches}
use Rattle.nys_plan.proofs.component.spread.Given as goal

abbrev pub invariant-loop-g : goal.invariant-loop-g
invariant-loop-g l = (k : ℕ) → has l.wider k ≡
    (has l.set k || (nat_lt k l.g && touches (linked_in l.graph.rows) (has l.set) k))

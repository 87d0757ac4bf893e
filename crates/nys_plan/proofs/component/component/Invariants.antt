-- what is reached so far holds the host and only what it reaches; each round adds a host of at most 32
use Rattle.std.proofs.Common.{◌≡◌, ℕ, ◌-◌, true}
use Rattle.nys_hosts.specs.Counts.{hosts_with}
use Rattle.nys_hosts.specs.Sets.{has}
use Rattle.nys_graph.specs.Links.{linked_in}
use Rattle.nys_plan.specs.Walks.{IsReached}
use Rattle.nys_plan.proofs.WalkLemmas.{Spreads}
use Rattle.nys_plan.proofs.component.component.Given as goal

abbrev pub invariant-loop-reached : goal.invariant-loop-reached
invariant-loop-reached l = record {
  start : has l.reached l.h ≡ true;
  sound : (g : ℕ) → has l.reached g ≡ true → IsReached (linked_in l.graph.rows) l.h g;
  spread : Spreads l.graph.hosts (linked_in l.graph.rows) (has l.reached) (has l.wider);
}

abbrev pub decreases-loop-reached : goal.decreases-loop-reached
decreases-loop-reached l = 32 - hosts_with (has l.reached)

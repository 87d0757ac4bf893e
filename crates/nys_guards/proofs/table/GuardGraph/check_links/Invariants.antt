-- no link whose lower host was looked at has a fault
use Rattle.std.proofs.Common.{◌≡◌, ℕ, ◌<◌, None}
use Rattle.nys_graph.specs.Links.{linked_in}
use Rattle.nys_guards.specs.Good.{guards_in, threshold_in}
use Rattle.nys_guards.specs.Faults.{fault_of_link}
use Rattle.nys_guards.proofs.table.GuardGraph.check_links.Given as goal

abbrev pub invariant-loop-p : goal.invariant-loop-p
invariant-loop-p l = (lower higher : ℕ) → lower < l.p → lower < higher → higher < l.graph.hosts
    → fault_of_link (linked_in l.graph.rows) (threshold_in l.self.t) (guards_in l.self.guards)
    lower higher ≡ None

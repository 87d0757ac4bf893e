-- no host so far has a fault
use Rattle.std.proofs.Common.{◌≡◌, ℕ, ◌<◌, None}
use Rattle.nys_graph.specs.Links.{linked_in}
use Rattle.nys_guards.specs.Good.{guards_in, threshold_in}
use Rattle.nys_guards.specs.Faults.{fault_of_host}
use Rattle.nys_guards.proofs.table.GuardGraph.check_hosts.Given as goal

abbrev pub invariant-loop-h : goal.invariant-loop-h
invariant-loop-h l = (k : ℕ) → k < l.h
    → fault_of_host (linked_in l.graph.rows) (threshold_in l.self.t) l.self.credit
    (guards_in l.self.guards) k ≡ None

-- no link so far to a higher host has a fault
use Rattle.std.proofs.Common.{◌≡◌, ℕ, ◌<◌, None}
use Rattle.nys_graph.specs.Links.{linked_in}
use Rattle.nys_guards.specs.Good.{guards_in, threshold_in}
use Rattle.nys_guards.specs.Faults.{fault_of_link}
use Rattle.nys_guards.proofs.table.GuardGraph.check_links_from.Given as goal

abbrev pub invariant-loop-h : goal.invariant-loop-h
invariant-loop-h l = (k : ℕ) → l.p < k → k < l.h
    → fault_of_link (linked_in l.graph.rows) (threshold_in l.self.t) (guards_in l.self.guards) l.p k ≡ None

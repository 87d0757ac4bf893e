-- no host so far has too many liars among its guards
use Rattle.std.proofs.Common.{ℕ, ◌<◌, ◌≤◌}
use Rattle.nys_hosts.specs.Quorums.{liars_among}
use Rattle.nys_hosts.specs.Sets.{has}
use Rattle.nys_guards.specs.Good.{guards_in, threshold_in}
use Rattle.nys_guards.proofs.table.GuardGraph.liars_within.Given as goal

abbrev pub invariant-loop-h : goal.invariant-loop-h
invariant-loop-h l = (k : ℕ) → k < l.h → liars_among (guards_in l.self.guards k)
    (has l.liars) ≤ threshold_in l.self.t k

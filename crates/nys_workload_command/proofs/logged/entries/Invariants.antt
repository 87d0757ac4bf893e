-- the entries so far and those that are left are all
use Rattle.std.proofs.Common.{◌≡◌, ◌+◌, ◌*◌, ◌-◌, ◌≤◌}
use Rattle.std.specs.List.{range_with_len}
use Rattle.nys_node.specs.Means.{Means}
use Rattle.nys_rules.specs.Scope.{Scope}
use Rattle.nys_rules.specs.View.{View}
use Rattle.nys_workload_command.proofs.logged.entries.Given as goal
use Rattle.nys_workload_command.specs.Logged.{entries_in}

abbrev pub invariant-loop-h : goal.invariant-loop-h
invariant-loop-h g l = record {
  sum : (scope : Scope g.row.P-State.Denot) (v : View) → Means scope l.node v
      → l.sum + entries_in v (range_with_len l.h (l.hosts - l.h)) ≡ entries_in v (range_with_len 0 l.hosts);
  bound : l.sum ≤ l.h * 1024;
}

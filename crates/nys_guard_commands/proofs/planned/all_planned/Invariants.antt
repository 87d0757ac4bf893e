-- the lines so far and those of the epochs that are left are those of all epochs
use Rattle.std.proofs.Common.{◌≡◌, ◌++◌, drop, map}
use Rattle.nys_scenario.specs.Epochs.{epoch_seen}
use Rattle.nys_guard_commands.specs.Planned.{lines_from}
use Rattle.nys_guard_commands.proofs.planned.all_planned.Given as goal

abbrev pub invariant-loop-e : goal.invariant-loop-e
invariant-loop-e l =
    l.text ++ lines_from l.hosts l.e (map epoch_seen (drop l.e l.epochs)) (drop l.e l.graphs)
    ≡ lines_from l.hosts 0 (map epoch_seen l.epochs) l.graphs

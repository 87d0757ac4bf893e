-- the guard graphs so far are those of the epochs so far
use Rattle.std.proofs.Common.{map, take}
use Rattle.nys_graph.specs.Links.{linked_in}
use Rattle.nys_scenario.specs.Epochs.{epoch_seen}
use Rattle.nys_guard_commands.specs.Graphs.{AreGraphsOf}
use Rattle.nys_guard_commands.proofs.graphs.guard_graphs.Given as goal

abbrev pub invariant-loop-e : goal.invariant-loop-e
invariant-loop-e l =
    AreGraphsOf l.graph.hosts (linked_in l.graph.rows) (map epoch_seen (take l.e l.epochs)) l.graphs.items

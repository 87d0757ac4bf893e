-- The slices are the lists of the epochs and of the guard graphs.
use Rattle.std.proofs.Common.{map, ◌∙◌}
use Rattle.std.proofs.lemmas.List.{length-map}
use Rattle.nys_graph.specs.Links.{linked_in}
use Rattle.nys_scenario.specs.Epochs.{epoch_seen}
use Rattle.nys_guard_commands.proofs.GraphsLemmas.{all_rows, length_graphs, small_graphs}
use Rattle.nys_guard_commands.proofs.checking.sound_graphs.Goals as goal

pub returns-clause-sound : goal.returns-clause-sound
returns-clause-sound c = record {
  graphs_of = rw c.deref.ensures.value at c.in_ok-graphs.ensures.good;
  stand = rw c.deref-2.ensures.value at c.in_ok-stand_liars.ensures.stand;
}

pub returns-clause-size : goal.returns-clause-size
returns-clause-size c =
    length_graphs c.args.scenario.now.graph.hosts (linked_in c.args.scenario.now.graph.rows)
    (map epoch_seen c.args.scenario.now.epochs.items) c.in_ok-graphs.graphs.items
    (rw c.deref.ensures.value at c.in_ok-graphs.ensures.good)
    ∙ length-map c.args.scenario.now.epochs.items epoch_seen

pub returns-clause-small : goal.returns-clause-small
returns-clause-small c =
    small_graphs c.args.scenario.now.graph.hosts (linked_in c.args.scenario.now.graph.rows) c.args.scenario.now.epochs.items
    c.in_ok-graphs.graphs.items (rw c.deref.ensures.value at c.in_ok-graphs.ensures.good)

pub returns-clause-rows : goal.returns-clause-rows
returns-clause-rows c past =
    all_rows c.args.scenario.now.graph.hosts (linked_in c.args.scenario.now.graph.rows)
    (map epoch_seen c.args.scenario.now.epochs.items) c.in_ok-graphs.graphs.items
    (rw c.deref.ensures.value at c.in_ok-graphs.ensures.good) past

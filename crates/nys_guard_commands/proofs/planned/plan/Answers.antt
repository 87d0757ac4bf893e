-- There is a guard graph for each epoch.
use Rattle.std.proofs.Common.{length, map, ap, ◌∙◌}
use Rattle.std.proofs.lemmas.List.{length-map}
use Rattle.nys_graph.specs.Links.{linked_in}
use Rattle.nys_scenario.specs.Epochs.{epoch_seen}
use Rattle.nys_guard_commands.specs.Planned.{unlisted}
use Rattle.nys_guard_commands.proofs.GraphsLemmas.{length_graphs}
use Rattle.nys_guard_commands.proofs.planned.plan.Goals as goal

pub all_planned-requires-clause-each : goal.all_planned-requires-clause-each
all_planned-requires-clause-each c =
    let epochs = c.args.scenario.now.epochs.items in
    rw (c.deref-in-Ok-2.ensures.value, c.deref-in-Ok.ensures.value)
    (length_graphs c.args.scenario.now.graph.hosts (linked_in c.args.scenario.now.graph.rows)
    (map epoch_seen c.in_ok-epochs.epochs.items) c.in-Ok.graphs.items
    (rw c.deref-2.ensures.value at c.in-Ok.ensures.good)
    ∙ ap length (rw c.deref.ensures.value at c.in_ok-epochs.ensures)
    ∙ length-map (map epoch_seen epochs) unlisted ∙ length-map epochs epoch_seen)

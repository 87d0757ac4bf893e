use Rattle.std.proofs.Common.{◌≡◌, drop}
use Rattle.toml.specs.View.{items_view}
use Rattle.nys_scenario.specs.Epochs.{are_tables}
use Rattle.nys_scenario.proofs.tables.all_tables.Given as goal

-- the members that are left pass where all of them do
abbrev pub invariant-loop-value : goal.invariant-loop-value
invariant-loop-value l =
    are_tables (items_view (drop l.value-index l.array.items)) ≡ are_tables (items_view l.array.items)

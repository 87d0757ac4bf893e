use Rattle.std.proofs.Common.{◌≡◌, drop}
use Rattle.toml.specs.View.{items_view}
use Rattle.nys_scenario.specs.Epochs.{are_lists}
use Rattle.nys_scenario.proofs.guards.all_lists.Given as goal

-- the members that are left pass where all of them do
abbrev pub invariant-loop-value : goal.invariant-loop-value
invariant-loop-value l =
    are_lists (items_view (drop l.value-index l.array.items)) ≡ are_lists (items_view l.array.items)

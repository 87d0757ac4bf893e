use Rattle.std.proofs.Common.{◌≡◌, drop}
use Rattle.toml.specs.View.{items_view}
use Rattle.nys_scenario.specs.Links.{are_pairs}
use Rattle.nys_scenario.proofs.links.all_pairs.Given as goal

-- the members that are left pass where all of them do
abbrev pub invariant-loop-value : goal.invariant-loop-value
invariant-loop-value l =
    are_pairs (items_view (drop l.value-index l.array.items)) ≡ are_pairs (items_view l.array.items)

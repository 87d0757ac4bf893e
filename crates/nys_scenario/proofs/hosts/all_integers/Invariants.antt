use Rattle.std.proofs.Common.{◌≡◌, drop}
use Rattle.toml.specs.View.{items_view}
use Rattle.nys_scenario.specs.Hosts.{are_integers}
use Rattle.nys_scenario.proofs.hosts.all_integers.Given as goal

-- the members that are left pass where all of them do
abbrev pub invariant-loop-value : goal.invariant-loop-value
invariant-loop-value l =
    are_integers (items_view (drop l.value-index l.array.items)) ≡ are_integers (items_view l.array.items)

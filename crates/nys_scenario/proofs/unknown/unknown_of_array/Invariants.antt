use Rattle.std.proofs.Common.{◌≡◌, drop}
use Rattle.toml.specs.View.{items_view}
use Rattle.nys_scenario.specs.Unknown.{unknown_from}
use Rattle.nys_scenario.proofs.unknown.unknown_of_array.Given as goal

-- no epoch so far has an unknown key
abbrev pub invariant-loop-index : goal.invariant-loop-index
invariant-loop-index l = unknown_from l.index (items_view (drop l.index l.array.items)) ≡ unknown_from 0 (items_view l.array.items)

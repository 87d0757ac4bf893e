use Rattle.std.proofs.Common.{◌≡◌, Ok, [], drop, map}
use Rattle.toml.specs.View.{items_view}
use Rattle.nys_scenario.specs.Epochs.{epoch_seen, epochs_after}
use Rattle.nys_scenario.proofs.tables.epochs_in_array.Given as goal

-- the epochs so far and those that are left are those of the whole array
abbrev pub invariant-loop-value : goal.invariant-loop-value
invariant-loop-value l =
    epochs_after l.hosts (Ok (map epoch_seen l.epochs.items)) (items_view (drop l.value-index l.array.items))
    ≡ epochs_after l.hosts (Ok []) (items_view l.array.items)

use Rattle.std.proofs.Common.{◌≡◌, Some, [], length, drop, map, take}
use Rattle.toml.specs.View.{items_view}
use Rattle.nys_hosts.specs.Sets.{has}
use Rattle.nys_scenario.specs.Epochs.{padded, row_in}
use Rattle.nys_scenario.specs.Hosts.{nobody}
use Rattle.nys_scenario.specs.Values.{values_after}
use Rattle.nys_scenario.proofs.guards.guard_sets.Given as goal

-- the sets so far and those that are left are those of the whole array, and none stands after them
abbrev pub invariant-loop-place : goal.invariant-loop-place
invariant-loop-place l = record {
  size : length l.sets ≡ 32;
  whole : values_after (row_in l.hosts) (Some (take l.place (map has l.sets))) (items_view (drop l.place l.array.items))
      ≡ values_after (row_in l.hosts) (Some []) (items_view l.array.items);
  padding : map has l.sets ≡ padded nobody (take l.place (map has l.sets));
}

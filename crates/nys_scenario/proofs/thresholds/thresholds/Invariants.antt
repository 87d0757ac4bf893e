use Rattle.std.proofs.Common.{◌≡◌, ◌≤◌, All, Some, [], length, drop, take}
use Rattle.toml.specs.View.{items_view}
use Rattle.nys_scenario.specs.Epochs.{padded, threshold_in}
use Rattle.nys_scenario.specs.Values.{values_after}
use Rattle.nys_scenario.proofs.thresholds.thresholds.Given as goal

-- the thresholds so far and those that are left are those of the whole array; they are small, and 0 stands after them
abbrev pub invariant-loop-place : goal.invariant-loop-place
invariant-loop-place l = record {
  size : length l.thresholds ≡ 32;
  whole : values_after (threshold_in l.t) (Some (take l.place l.thresholds)) (items_view (drop l.place l.array.items))
      ≡ values_after (threshold_in l.t) (Some []) (items_view l.array.items);
  padding : l.thresholds ≡ padded 0 (take l.place l.thresholds);
  small : All (λ own. own ≤ l.t) l.thresholds;
}

-- One threshold more is in its place, and is the next that the array lists.
use Rattle.std.proofs.Common.{◌≡◌, ◌∙◌, ◌<◌, ◌≤◌, ◌+◌, ◌++◌, ◌∷◌, [], rules, Some, ap, arith, length, refl, take, drop, length-set}
use Rattle.std.proofs.Math.ListN.{set}
use Rattle.std.proofs.lemmas.List.{take_more_set}
use Rattle.std.proofs.lemmas.List.Elements.{All-replicate, All-set}
use Rattle.toml.specs.View.{items_view}
use Rattle.nys_scenario.specs.Epochs.{threshold_in}
use Rattle.nys_scenario.specs.Values.{values_after}
use Rattle.nys_scenario.proofs.HostTables.{padded_more, whole_more}
use Rattle.nys_scenario.proofs.thresholds.thresholds.Goals as goal

pub loop-place-init : goal.loop-place-init
loop-place-init c = record {
  size = refl;
  whole = refl;
  padding = refl;
  small = All-replicate (λ own. own ≤ c.args.t) 32 0 (omega arith);
}

pub loop-place-preserved : goal.loop-place-preserved
loop-place-preserved c =
    let p = c.loop-place.place in
    let before = c.loop-place.thresholds in
    let more = c.in_ok-thresholds.field-0 in
    let rest = items_view (drop (p + 1) c.args.array.now.items) in
    let inside : p < length c.args.array.now.items = search rules in
    let size : length before ≡ 32 = c.loop-place.invariant.size in
    let fits : p < 32 = omega arith in
    let taken : take (p + 1) (set before p more) ≡ take p before ++ more ∷ [] = take_more_set before p more (omega arith) in
    record {
      size = length-set before p more ∙ size;
      whole = ap (λ values. values_after (threshold_in c.args.t) (Some values) rest) taken
          ∙ whole_more (threshold_in c.args.t) (take p before) c.args.array.now.items p c.value-item.result more _ inside
          (search rules) c.in_ok-thresholds.ensures.value c.loop-place.invariant.whole;
      padding = padded_more 0 before p more size fits c.loop-place.invariant.padding;
      small = All-set (λ own. own ≤ c.args.t) before p more c.in_ok-thresholds.ensures.small c.loop-place.invariant.small;
    }

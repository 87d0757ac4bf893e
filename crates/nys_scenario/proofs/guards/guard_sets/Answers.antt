-- One set more is in its place, and is the next that the array lists.
use Rattle.std.proofs.Common.{◌≡◌, ◌∙◌, ◌<◌, ◌+◌, ◌++◌, ◌∷◌, [], rules, Some, sym, ap, arith, length, map, take, drop, slice_set, length-set}
use Rattle.std.proofs.Math.ListN.{set}
use Rattle.std.proofs.lemmas.List.{length-map, map-set, take_more_set}
use Rattle.toml.specs.View.{items_view}
use Rattle.nys_hosts.specs.Sets.{has}
use Rattle.nys_scenario.specs.Epochs.{padded, row_in}
use Rattle.nys_scenario.specs.Hosts.{nobody}
use Rattle.nys_scenario.specs.Values.{values_after}
use Rattle.nys_scenario.proofs.HostTables.{padded_more, whole_more}
use Rattle.nys_scenario.proofs.guards.guard_sets.Goals as goal

pub loop-place-preserved : goal.loop-place-preserved
loop-place-preserved c =
    let p = c.loop-place.place in
    let before = map has c.loop-place.sets in
    let more = has c.in_ok-sets.field-0 in
    let rest = items_view (drop (p + 1) c.args.array.now.items) in
    let inside : p < length c.args.array.now.items = search rules in
    let fits : p < 32 = omega arith in
    let size : length before ≡ 32 = rw length-map c.loop-place.invariant.size in
    let placed : map has (slice_set c.loop-place.sets p c.in_ok-sets.field-0) ≡ set before p more =
    map-set has c.loop-place.sets p c.in_ok-sets.field-0 in
    let taken : take (p + 1) (set before p more) ≡ take p before ++ more ∷ [] = take_more_set before p more (omega arith) in
    record {
      size = length-set c.loop-place.sets p c.in_ok-sets.field-0 ∙ c.loop-place.invariant.size;
      whole = ap (λ sets. values_after (row_in c.args.hosts) (Some (take (p + 1) sets)) rest) placed
          ∙ ap (λ sets. values_after (row_in c.args.hosts) (Some sets) rest) taken
          ∙ whole_more (row_in c.args.hosts) (take p before) c.args.array.now.items p c.value-item.result more _ inside
          (search rules) c.in_ok-sets.ensures c.loop-place.invariant.whole;
      padding = placed ∙ padded_more nobody before p more size fits c.loop-place.invariant.padding
          ∙ ap (λ sets. padded nobody (take (p + 1) sets)) (sym placed);
    }

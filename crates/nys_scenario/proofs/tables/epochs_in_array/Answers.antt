-- One epoch more is the next that the array lists.
use Rattle.std.proofs.Common.{◌≡◌, ◌∙◌, ◌<◌, ◌+◌, ◌++◌, ◌∷◌, [], rules, Ok, map, sym, ap, subst, length, drop}
use Rattle.std.proofs.lemmas.List.{length-map, map-append}
use Rattle.toml.specs.Data.{as_table}
use Rattle.toml.specs.View.{items_view, view}
use Rattle.nys_scenario.specs.Epochs.{epoch_at, epoch_seen, epochs_after}
use Rattle.nys_scenario.proofs.EpochsMore.{epochs_more}
use Rattle.nys_scenario.proofs.tables.epochs_in_array.Goals as goal

pub loop-value-preserved : goal.loop-value-preserved
loop-value-preserved c =
    let hosts = c.args.hosts in
    let i = c.loop-value.value-index in
    let epochs = c.loop-value.epochs.items in
    let before = map epoch_seen epochs in
    let epoch = epoch_seen c.in_ok-epoch.epoch in
    let table = as_table (view c.value-item.result) in
    let rest = items_view (drop (i + 1) c.args.array.now.items) in
    let inside : i < length c.args.array.now.items = search rules in
    let counted : c.len.result ≡ length epochs = search rules in
    let here : epoch_at hosts (length before) table ≡ Ok epoch =
    subst (λ n. epoch_at hosts n table ≡ Ok epoch) (counted ∙ sym (length-map epochs epoch_seen)) c.in_ok-epoch.ensures.ok in
    let grown : map epoch_seen c.push.new.epochs.items ≡ before ++ epoch ∷ [] =
    ap (map epoch_seen) c.in_ok-push.ensures.ok ∙ map-append epoch_seen epochs (c.in_ok-epoch.epoch ∷ []) in
    ap (λ all. epochs_after hosts (Ok all) rest) grown
    ∙ epochs_more hosts before c.args.array.now.items i c.value-item.result epoch _ inside (search rules) here c.loop-value.invariant

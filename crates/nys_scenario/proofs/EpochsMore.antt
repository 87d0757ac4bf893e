-- The epochs of an array, one by one.
use Rattle.std.proofs.Common.{◌≡◌, ◌∙◌, ◌<◌, ◌+◌, ℕ, List, [], ◌∷◌, ◌++◌, length, drop, get_or, Result, Ok, sym, ap}
use Rattle.toml.proofs.Views.{items_view-drop}
use Rattle.toml.specs.Data.{as_table, item}
use Rattle.toml.specs.View.{items_view, view}
use Rattle.toml.specs.declared.value.Value.{Value}
use Rattle.nys_scenario.specs.Epochs.{Epoch, epoch_at, epochs_after, with_epoch}
use Rattle.nys_scenario.specs.Keys.{Refusal}

-- one epoch more of an array, and those that are left
pub epochs_more : (hosts : ℕ) (before : List Epoch) (vs : List Value) (i : ℕ) (v : Value) (epoch : Epoch)
    (all : Result (List Epoch) Refusal) → i < length vs → v ≡ get_or vs i v
    → epoch_at hosts (length before) (as_table (view v)) ≡ Ok epoch
    → epochs_after hosts (Ok before) (items_view (drop i vs)) ≡ all
    → epochs_after hosts (Ok (before ++ epoch ∷ [])) (items_view (drop (i + 1) vs)) ≡ all
epochs_more hosts before vs i v epoch all lt is found rest =
    let step : items_view (drop i vs) ≡ item (view v) (items_view (drop (i + 1) vs)) =
    items_view-drop vs i v lt ∙ ap (λ (x : Value). item (view x) (items_view (drop (i + 1) vs))) (sym is) in
    ap (λ r. epochs_after hosts (with_epoch before r) (items_view (drop (i + 1) vs))) (sym found)
    ∙ sym (ap (epochs_after hosts (Ok before)) step) ∙ rest

-- What an array of toml's is as items.
use Rattle.std.proofs.Common.{◌≡◌, ◌<◌, ◌≤◌, List, [], ◌∷◌, length, None, refl, arith}
use Rattle.toml.specs.View.{items_view}
use Rattle.toml.specs.declared.value.Value.{Value}
use Rattle.nys_scenario.specs.Epochs.{count_of}
use Rattle.nys_scenario.specs.Links.{two_of}

-- an array has as many items as members
pub count_of_items : (vs : List Value) → count_of (items_view vs) ≡ length vs
unfolding count_of
count_of_items [] = refl
count_of_items (v ∷ vs) = grind (arith, count_of_items vs)

-- one member is no pair, and no more are three
pub no_pair_short : (vs : List Value) → length vs < 2 → None ≡ two_of (items_view vs)
no_pair_short [] few = refl
no_pair_short (v ∷ []) few = refl
no_pair_short (v ∷ w ∷ vs) few = absurd (omega arith)

-- three members and more are no pair
pub no_pair_long : (vs : List Value) → 3 ≤ length vs → None ≡ two_of (items_view vs)
no_pair_long [] many = absurd (omega arith)
no_pair_long (v ∷ []) many = absurd (omega arith)
no_pair_long (v ∷ w ∷ []) many = absurd (omega arith)
no_pair_long (u ∷ v ∷ w ∷ vs) many = refl

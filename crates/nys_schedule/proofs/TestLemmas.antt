-- A test of each element, element by element.
use Rattle.std.proofs.Common.{◌≡◌, ◌+◌, ◌&&◌, ℕ, Bool, true, false, List, Some, drop, ◌∙◌, ap}
use Rattle.std.specs.List.{list_all, slice_get}
use Rattle.std.proofs.lemmas.List.{at_drop_more}
use Rattle.std.proofs.lemmas.Option.{get_or_from_slice_get, slice_get_within}

-- all from a place on pass where the element there does, and all behind it
pub all_from : {A : Type 0} (p : A → Bool) (xs : List A) (i : ℕ) (x : A) → slice_get xs i ≡ Some x
    → list_all p (drop i xs) ≡ (p x && list_all p (drop (i + 1) xs))
all_from p xs i x there =
    at_drop_more (list_all p) xs i x (slice_get_within xs i x there)
    ∙ ap (λ y. p y && list_all p (drop (i + 1) xs)) (get_or_from_slice_get xs i x x there)

-- the element at a place fails, so not all pass
pub fails_at : {A : Type 0} (p : A → Bool) (xs : List A) (i : ℕ) (x : A) → slice_get xs i ≡ Some x
    → p x ≡ false
    → list_all p (drop i xs) ≡ false
fails_at p xs i x there fails =
    all_from p xs i x there ∙ ap (λ b. b && list_all p (drop (i + 1) xs)) fails

-- the element at a place passes, so all from there do where all behind it do
pub passes_at : {A : Type 0} (p : A → Bool) (xs : List A) (i : ℕ) (x : A) → slice_get xs i ≡ Some x
    → p x ≡ true
    → list_all p (drop i xs) ≡ list_all p (drop (i + 1) xs)
passes_at p xs i x there passes =
    all_from p xs i x there ∙ ap (λ b. b && list_all p (drop (i + 1) xs)) passes

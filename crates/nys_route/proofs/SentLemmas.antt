-- Payloads of a link by their numbers.
use Rattle.std.proofs.Common.{◌≡◌, ℕ, zero, suc, ◌+◌, ◌⊎◌, List, [], ◌∷◌, ◌++◌, length, take, Some, refl, ap, ◌∙◌, inl, inr}
use Rattle.std.specs.Prelude.{slice_get}
use Rattle.std.proofs.lemmas.List.{take_more}
use Rattle.std.proofs.lemmas.Option.{get_or_from_slice_get, slice_get_within}

-- what a list has it has with one more behind it
pub get_more : {A : Type 0} (xs : List A) (k : ℕ) (x y : A) → slice_get xs k ≡ Some x → slice_get (xs ++ y ∷ []) k ≡ Some x
get_more [] k x y e = cc
get_more (z ∷ xs) zero x y e = e
get_more (z ∷ xs) (suc k) x y e = get_more xs k x y e

-- what a list has with one more behind it is that one, or it had it before
pub get_last : {A : Type 0} (xs : List A) (k : ℕ) (x y : A) → slice_get (xs ++ y ∷ []) k ≡ Some x
    → (slice_get xs k ≡ Some x) ⊎ ((k ≡ length xs) × (y ≡ x))
get_last [] zero x y e = inr (refl, cc)
get_last [] (suc k) x y e = cc
get_last (z ∷ xs) zero x y e = inl e
get_last (z ∷ xs) (suc k) x y e = elim (get_last xs k x y e) [
  | inl before ↦ inl before
  | inr last ↦ inr (ap suc last.0, last.1)
]

-- the one behind is there at the length
pub get_end : {A : Type 0} (xs : List A) (y : A) → slice_get (xs ++ y ∷ []) (length xs) ≡ Some y
get_end [] y = refl
get_end (z ∷ xs) y = get_end xs y

-- one more of a list
pub take_next : {A : Type 0} (xs : List A) (k : ℕ) (x : A) → slice_get xs k ≡ Some x → take (k + 1) xs ≡ take k xs ++ x ∷ []
take_next xs k x e = take_more xs k x (slice_get_within xs k x e) ∙ ap (λ w. take k xs ++ w ∷ []) (get_or_from_slice_get xs k x x e)

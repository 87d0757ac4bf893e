-- Walks over a list by place: what the rest gives is what the whole gives.
use Rattle.std.proofs.Common.{◌≡◌, ℕ, zero, suc, ◌+◌, ◌++◌, Bool, true, false, List, [], ◌∷◌, drop, refl, ap, subst, sym, ◌∙◌, arith}
use Rattle.std.proofs.lemmas.List.{append_assoc}
use Rattle.std.specs.Prelude.{filter, slice_get, Some}
use Rattle.std.specs.List.{list_any}

-- from a place on, the list has what stands there and then the rest
pub drop_next : {A : Type 0} (xs : List A) (i : ℕ) (x : A) → slice_get xs i ≡ Some x → drop i xs ≡ x ∷ drop (i + 1) xs
drop_next [] i x at = absurd (cc)
drop_next (y ∷ ys) zero x at = ap (λ z. z ∷ ys) (some_same at)
  where
    some_same : Some y ≡ Some x → y ≡ x
    some_same e = cc
drop_next (y ∷ ys) (suc i) x at =
    let same : suc (i + 1) ≡ suc i + 1 = omega arith in
    subst (λ n. drop i ys ≡ x ∷ drop n (y ∷ ys)) same (drop_next ys i x at)

-- what stands at the place passes, so some item from there on does
pub any_found : {A : Type 0} (f : A → Bool) (xs : List A) (i : ℕ) (x : A) → slice_get xs i ≡ Some x → true ≡ f x → true ≡ list_any f (drop i xs)
any_found f xs i x at passes = rw (drop_next xs i x at) (rw (sym passes) refl)

-- what stands at the place doesn't, so it is left to the rest
pub any_next : {A : Type 0} (f : A → Bool) (xs : List A) (i : ℕ) (x : A) → slice_get xs i ≡ Some x → false ≡ f x
    → list_any f (drop i xs) ≡ list_any f (drop (i + 1) xs)
any_next f xs i x at fails = rw (drop_next xs i x at) (rw (sym fails) refl)

-- what is kept of an item, then of the rest, is what is kept from the item on
pub filter_next : {A : Type 0} (f : A → Bool) (kept xs : List A) (i : ℕ) (x : A) → slice_get xs i ≡ Some x
    → (kept ++ filter f (x ∷ [])) ++ filter f (drop (i + 1) xs) ≡ kept ++ filter f (drop i xs)
filter_next f kept xs i x at = append_assoc kept (filter f (x ∷ [])) (filter f (drop (i + 1) xs)) ∙ ap (λ ys. kept ++ ys) (joined (f x) refl)
  where
    joined : (b : Bool) → f x ≡ b → filter f (x ∷ []) ++ filter f (drop (i + 1) xs) ≡ filter f (drop i xs)
    joined true e = rw (drop_next xs i x at) (rw e refl)
    joined false e = rw (drop_next xs i x at) (rw e refl)

-- the first item passes, so some item does
pub any_first : {A : Type 0} (f : A → Bool) (x : A) (rest xs : List A) → xs ≡ x ∷ rest → true ≡ f x → true ≡ list_any f xs
any_first f x rest xs are passes = rw are (rw (sym passes) refl)

-- the first item doesn't, so it is left to the rest
pub any_behind : {A : Type 0} (f : A → Bool) (x : A) (rest xs : List A) → xs ≡ x ∷ rest → false ≡ f x → list_any f xs ≡ list_any f rest
any_behind f x rest xs are fails = rw are (rw (sym fails) refl)

-- the first item is kept, and then what is kept of the rest
pub filter_first : {A : Type 0} (f : A → Bool) (x : A) (rest xs : List A) → xs ≡ x ∷ rest → true ≡ f x → filter f xs ≡ x ∷ filter f rest
filter_first f x rest xs are passes = rw are (rw (sym passes) refl)

-- the first item isn't kept
pub filter_behind : {A : Type 0} (f : A → Bool) (x : A) (rest xs : List A) → xs ≡ x ∷ rest → false ≡ f x → filter f xs ≡ filter f rest
filter_behind f x rest xs are fails = rw are (rw (sym fails) refl)

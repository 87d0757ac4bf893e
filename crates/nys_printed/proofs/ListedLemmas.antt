-- What stands in lists that are made of others, and what is printed of them.
use Rattle.std.proofs.Common.{◌≡◌, ℕ, zero, suc, ◌+◌, ◌<◌, ◌⊎◌, ◌++◌, Bool, true, false, cond, List, [], ◌∷◌, filter, map, refl, ap, sym, subst, ◌∙◌, inl, inr, arith}
use Rattle.std.specs.Prelude.{All, Contains}
use Rattle.std.specs.List.{flat_map, range_with_len}
use Rattle.std.proofs.lemmas.Grind.{flat_map-append}
use Rattle.std.proofs.lemmas.List.Elements.{All-append, All-cons, All-head, All-nil, All-tail, Contains-append_left, Contains-append_right}
use Rattle.std.proofs.lemmas.List.FromFn.{get_or-range_with_len, length-range_with_len}

-- what is printed of values is printed of what they come from
pub flat_map_map : {A B C : Type 0} (f : B → List C) (k : A → B) (xs : List A) → flat_map f (map k xs) ≡ flat_map (λ x. f (k x)) xs
flat_map_map f k [] = refl
flat_map_map f k (x ∷ xs) = ap (λ t. f (k x) ++ t) (flat_map_map f k xs)

-- the same of lists of values
pub flat_map_flat : {A B C : Type 0} (f : B → List C) (k : A → List B) (xs : List A)
    → flat_map f (flat_map k xs) ≡ flat_map (λ x. flat_map f (k x)) xs
flat_map_flat f k [] = refl
flat_map_flat f k (x ∷ xs) =
    flat_map-append f (k x) (flat_map k xs) ∙ ap (λ t. flat_map f (k x) ++ t) (flat_map_flat f k xs)

-- what is printed of each is the same
pub flat_map_same : {A B : Type 0} (f k : A → List B) (xs : List A) → ((x : A) → f x ≡ k x) → flat_map f xs ≡ flat_map k xs
flat_map_same f k [] same = refl
flat_map_same f k (x ∷ xs) same = ap (λ t. t ++ flat_map f xs) (same x) ∙ ap (λ t. k x ++ t) (flat_map_same f k xs same)

-- a list has its first, or its rest has it
in_cases : {A : Type 0} (x : A) (xs : List A) (y : A) → Contains (x ∷ xs) y → (x ≡ y) ⊎ Contains xs y
in_cases x xs y (zero, lt, at) = inl at
in_cases x xs y (suc k, lt, at) = inr (k, omega (arith, lt), at)

-- the first is there
in_first : {A : Type 0} (x : A) (xs : List A) → Contains (x ∷ xs) x
in_first x xs = (0, omega arith, refl)

-- so is each of the rest
in_rest : {A : Type 0} (x : A) (xs : List A) (y : A) → Contains xs y → Contains (x ∷ xs) y
in_rest x xs y is = let lt = is.1 in (suc is.0, omega (arith, lt), is.2)

-- nothing stands in no list
in_none : {A : Type 0} (y : A) → Contains [] y → ⊥
in_none y is = let lt = is.1 in omega (arith, lt)

-- what comes from one that is there
pub in_map : {A B : Type 0} (k : A → B) (xs : List A) (x : A) → Contains xs x → Contains (map k xs) (k x)
in_map k [] x is = absurd (in_none x is)
in_map {A} {B} k (z ∷ zs) x is = elim (in_cases z zs x is) [
  | inl same ↦ subst (λ (u : A). Contains (map k (z ∷ zs)) (k u)) same (in_first (k z) (map k zs))
  | inr later ↦ in_rest (k z) (map k zs) (k x) (in_map k zs x later)
]

-- in lists of values
pub in_flat : {A B : Type 0} (f : A → List B) (xs : List A) (x : A) (y : B) → Contains xs x → Contains (f x) y
    → Contains (flat_map f xs) y
in_flat f [] x y is here = absurd (in_none x is)
in_flat {A} f (z ∷ zs) x y is here = elim (in_cases z zs x is) [
  | inl same ↦ Contains-append_left (f z) (flat_map f zs) y (subst (λ (u : A). Contains (f u) y) (sym same) here)
  | inr later ↦ Contains-append_right (f z) (flat_map f zs) y (in_flat f zs x y later here)
]

-- one that passes is picked
pub in_filter : {A : Type 0} (test : A → Bool) (xs : List A) (x : A) → test x ≡ true → Contains xs x → Contains (filter test xs) x
in_filter test [] x passes is = is
in_filter {A} test (z ∷ zs) x passes is = elim (in_cases z zs x is) [
  | inl same ↦ here (test z) (ap test same ∙ passes) same
  | inr later ↦ there (test z) (in_filter test zs x passes later)
]
  where
    here : (b : Bool) → b ≡ true → z ≡ x → Contains (cond b (z ∷ filter test zs) (filter test zs)) x
    here true is same = subst (Contains (z ∷ filter test zs)) same (in_first z (filter test zs))
    here false is same = absurd (cc)

    there : (b : Bool) → Contains (filter test zs) x → Contains (cond b (z ∷ filter test zs) (filter test zs)) x
    there true is = in_rest z (filter test zs) x is
    there false is = is

-- a number below the count is in the range from 0 on
pub in_range : (n h : ℕ) → h < n → Contains (range_with_len 0 n) h
in_range n h low =
    let at = get_or-range_with_len 0 n h h low in
    (h, omega (arith, low, length-range_with_len 0 n), omega (arith, at))

-- numbers of the range are below the count
pub record IsBelow (n h : ℕ) : Type 0 where
  pub low : h < n

-- all of them
range_below : (n first count : ℕ) → first + count ≡ n → All (IsBelow n) (range_with_len first count)
range_below n first zero end = All-nil (IsBelow n)
range_below n first (suc count) end =
    All-cons (IsBelow n) first (range_with_len (first + 1) count) (record { low = omega (arith, end) })
    (range_below n (first + 1) count (omega (arith, end)))

-- what holds of all that comes from each that passes a test holds of all that is listed so
pub all_picked : {A B : Type 0} (P : B → Type 0) (Q : A → Type 0) (f : A → List B) (test : A → Bool) (xs : List A) → All Q xs
    → ((x : A) → Q x → test x ≡ true → All P (f x)) → All P (flat_map f (filter test xs))
all_picked P Q f test [] all each = All-nil P
all_picked {A} {B} P Q f test (x ∷ xs) all each =
    by (test x) refl (all_picked P Q f test xs (All-tail Q x xs all) each)
  where
    by : (b : Bool) → test x ≡ b → All P (flat_map f (filter test xs))
        → All P (flat_map f (cond b (x ∷ filter test xs) (filter test xs)))
    by true is rest = All-append P (f x) (flat_map f (filter test xs)) (each x (All-head Q x xs all) is) rest
    by false is rest = rest

-- what holds of what comes from each that passes holds of all
pub all_mapped : {A B : Type 0} (P : B → Type 0) (k : A → B) (test : A → Bool) (xs : List A) → ((x : A) → test x ≡ true → P (k x))
    → All P (map k (filter test xs))
all_mapped P k test [] each = All-nil P
all_mapped {A} {B} P k test (x ∷ xs) each = by (test x) refl (all_mapped P k test xs each)
  where
    by : (b : Bool) → test x ≡ b → All P (map k (filter test xs)) → All P (map k (cond b (x ∷ filter test xs) (filter test xs)))
    by true is rest = All-cons P (k x) (map k (filter test xs)) (each x is) rest
    by false is rest = rest

-- what holds of the hosts below the count that pass
pub all_hosts : {B : Type 0} (P : B → Type 0) (f : ℕ → List B) (test : ℕ → Bool) (n : ℕ)
    → ((h : ℕ) → h < n → test h ≡ true → All P (f h)) → All P (flat_map f (filter test (range_with_len 0 n)))
all_hosts P f test n each =
    all_picked P (IsBelow n) f test (range_with_len 0 n) (range_below n 0 n (omega arith)) (λ h is passes. each h is.low passes)

-- Which content supports a slot, found report after report.
use Rattle.std.proofs.Common.{◌≡◌, ℕ, zero, suc, ◌+◌, ◌-◌, ◌<◌, ◌++◌, cond, List, [], ◌∷◌, drop, take, refl, ap, subst, arith}
use Rattle.std.specs.Prelude.{nat_lt, slice_get, Option, Some, None}
use Rattle.nys_bytes.specs.declared.content.Content.{Content}
use Rattle.nys_rules.specs.Olympus.{OlympusView, Reported, reports_for, supported, supported_after, supported_from}
use Rattle.nys_rules.specs.Scope.{Scope}
use Rattle.nys_source.specs.Tables.{lists_at}
use Rattle.nys_olympus.specs.Supports.{followed, supports_of}
use Rattle.nys_sending.proofs.Walks.{drop_next}

-- up to behind a place, the list has what is before it and what stands there
pub take_next : {A : Type 0} (xs : List A) (i : ℕ) (x : A) → slice_get xs i ≡ Some x → take (i + 1) xs ≡ take i xs ++ x ∷ []
take_next [] i x at = absurd (cc)
take_next (y ∷ ys) zero x at = ap (λ z. z ∷ []) (some_same at)
  where
    some_same : Some y ≡ Some x → y ≡ x
    some_same e = cc
take_next (y ∷ ys) (suc i) x at =
    let same : suc (i + 1) ≡ suc i + 1 = omega arith in
    subst (λ n. take n (y ∷ ys) ≡ y ∷ (take i ys ++ x ∷ [])) same (ap (λ zs. y ∷ zs) (take_next ys i x at))

-- the next report either makes its content supported, or is left behind
pub supported_next : (t : ℕ) (xs : List Reported) (i : ℕ) (x : Reported) → slice_get xs i ≡ Some x
    → supported_after t (take i xs) (drop i xs)
    ≡ cond (nat_lt t (reports_for x.content (take (i + 1) xs))) (Some x.content) (supported_after t (take (i + 1) xs) (drop (i + 1) xs))
supported_next t xs i x at = rw (drop_next xs i x at, take_next xs i x at) refl

-- what is left follows the content of the next slot
pub supports_left : (t : ℕ) (docket : List (List Reported)) (slot i : ℕ) → i < 1024
    → supports_of (1024 - i) t docket slot ≡ followed (supported_after t [] (lists_at docket slot)) (supports_of (1024 - (i + 1)) t docket (slot + 1))
supports_left t docket slot i below =
    let more : 1024 - i ≡ suc (1024 - (i + 1)) = omega (arith, below) in ap (λ n. supports_of n t docket slot) more

-- the slots of a docket are supported as those of the view are
pub supports_same : {S : Type 0} (n : ℕ) (scope : Scope S) (o : OlympusView) (h : ℕ) (docket : List (List Reported)) (slot : ℕ)
    → ((s : ℕ) → lists_at docket s ≡ o.reports h s) → supports_of n (scope.t o.epoch h) docket slot ≡ supported_from n scope o h slot
unfolding supported
supports_same zero scope o h docket slot same = refl
supports_same (suc n) scope o h docket slot same = go (supported_after (scope.t o.epoch h) [] (o.reports h slot)) refl (supports_same n scope o h docket (slot + 1) same)
  where
    go : (found : Option Content) → supported_after (scope.t o.epoch h) [] (o.reports h slot) ≡ found
        → supports_of n (scope.t o.epoch h) docket (slot + 1) ≡ supported_from n scope o h (slot + 1)
        → supports_of (suc n) (scope.t o.epoch h) docket slot ≡ supported_from (suc n) scope o h slot
    go None e rest = rw (same slot, e) refl
    go (Some content) e rest = rw (same slot, e) (ap (λ xs. content ∷ xs) rest)

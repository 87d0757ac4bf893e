-- Lists by their entries.
use Rattle.std.proofs.Common.{◌≡◌, ℕ, zero, suc, ◌+◌, ◌-◌, ◌<◌, ◌≤◌, ◌⊎◌, List, [], ◌∷◌, ◌++◌, length, take, drop, Some, refl, ap, sym, ◌∙◌, inl, inr, arith, append-nil, length-append, length-drop}
use Rattle.std.specs.Prelude.{slice_get}
use Rattle.std.proofs.lemmas.Option.{slice_get_within}
use Rattle.nys_agreement.specs.Claims.{IsPrefixOf}

-- an entry stays where more follow
pub append_get : {A : Type 0} (xs ys : List A) (i : ℕ) → i < length xs → slice_get (xs ++ ys) i ≡ slice_get xs i
append_get [] ys i lt = absurd (omega arith)
append_get (x ∷ xs) ys zero lt = refl
append_get (x ∷ xs) ys (suc i) lt = append_get xs ys i (omega arith)

-- an entry of the first list is one of both in a row
pub append_some : {A : Type 0} (xs ys : List A) (i : ℕ) (x : A) → slice_get xs i ≡ Some x → slice_get (xs ++ ys) i ≡ Some x
append_some xs ys i x e = append_get xs ys i (slice_get_within xs i x e) ∙ e

-- an entry of two lists in a row is one of the first or one of the second
pub in_append : {A : Type 0} (xs ys : List A) (i : ℕ) (x : A) → slice_get (xs ++ ys) i ≡ Some x
    → (slice_get xs i ≡ Some x) ⊎ ((length xs ≤ i) × (slice_get ys (i - length xs) ≡ Some x))
in_append [] ys i x e = let z : i - 0 ≡ i = omega arith in inr (omega arith, rw z e)
in_append (y ∷ xs) ys zero x e = inl e
in_append (y ∷ xs) ys (suc i) x e =
    let z : suc i - suc (length xs) ≡ i - length xs = omega arith in
    elim (in_append xs ys i x e) [ inl a ↦ inl a | inr b ↦ let le = b.0 in inr (omega arith, rw z b.1) ]

-- an entry of a list with one more is an old one or the new one
pub in_push : {A : Type 0} (xs : List A) (y : A) (i : ℕ) (x : A) → slice_get (xs ++ y ∷ []) i ≡ Some x
    → (slice_get xs i ≡ Some x) ⊎ ((i ≡ length xs) × (y ≡ x))
in_push [] y zero x e = inr (refl, cc)
in_push [] y (suc i) x e = absurd (cc)
in_push (z ∷ xs) y zero x e = inl e
in_push (z ∷ xs) y (suc i) x e = elim (in_push xs y i x e) [ inl a ↦ inl a | inr b ↦ inr (ap suc b.0, b.1) ]

-- the entries behind a place are those of the places behind it
pub get_drop : {A : Type 0} (n : ℕ) (xs : List A) (i : ℕ) → slice_get (drop n xs) i ≡ slice_get xs (n + i)
get_drop zero xs i = let e : 0 + i ≡ i = omega arith in rw e refl
get_drop (suc n) [] i = refl
get_drop (suc n) (x ∷ xs) i = let e : suc n + i ≡ suc (n + i) = omega arith in rw e (get_drop n xs i)

-- a list that goes on where another passes it has entries of both alone
pub in_grown : {A : Type 0} (xs ys : List A) (i : ℕ) (x : A) → slice_get (xs ++ drop (length xs) ys) i ≡ Some x
    → (slice_get xs i ≡ Some x) ⊎ ((length xs ≤ i) × (slice_get ys i ≡ Some x))
in_grown xs ys i x e = elim (in_append xs (drop (length xs) ys) i x e) [
  | inl a ↦ inl a
  | inr b ↦
      let le = b.0 in
      let z : length xs + (i - length xs) ≡ i = omega arith in
      inr (b.0, ap (slice_get ys) (sym z) ∙ (sym (get_drop (length xs) ys (i - length xs)) ∙ b.1))
]

-- how long it is
pub length-grown : {A : Type 0} (xs ys : List A) → (length xs ≤ length (xs ++ drop (length xs) ys)) × (length ys ≤ length (xs ++ drop (length xs) ys)) × (length ys ≤ length xs → length (xs ++ drop (length xs) ys) ≡ length xs)
length-grown xs ys =
    let a = length-append xs (drop (length xs) ys) in
    let b = length-drop (length xs) ys in
    (omega arith, omega arith, λ le. omega arith)

-- the longer of the two has that length
pub length-grown_by : {A : Type 0} (xs ys : List A) → length xs ≤ length ys → length (xs ++ drop (length xs) ys) ≡ length ys
length-grown_by xs ys le =
    let a = length-append xs (drop (length xs) ys) in
    let b = length-drop (length xs) ys in
    omega arith

-- a list that is at most one longer than a number has nothing behind it, or one entry
pub drop_one : {A : Type 0} (n : ℕ) (xs : List A) → length xs ≤ n + 1
    → ((length xs ≤ n) × (drop n xs ≡ [])) ⊎ ((x : A) × (slice_get xs n ≡ Some x) × (drop n xs ≡ x ∷ []))
drop_one zero [] le = inl (omega arith, refl)
drop_one zero (x ∷ []) le = inr (x, refl, refl)
drop_one zero (x ∷ y ∷ xs) le = absurd (omega arith)
drop_one (suc n) [] le = inl (omega arith, refl)
drop_one (suc n) (x ∷ xs) le = elim (drop_one n xs (omega arith)) [
  | inl a ↦ let b = a.0 in inl (omega arith, a.1)
  | inr a ↦ inr a
]

-- a list that is no longer, and has the same entries, is a prefix
pub prefix_from : {A : Type 0} (xs ys : List A) → length xs ≤ length ys
    → ((i : ℕ) (x y : A) → slice_get xs i ≡ Some x → slice_get ys i ≡ Some y → x ≡ y) → IsPrefixOf xs ys
prefix_from [] ys le same = (ys, refl)
prefix_from (x ∷ xs) [] le same = absurd (omega arith)
prefix_from (x ∷ xs) (y ∷ ys) le same =
    let r = prefix_from xs ys (omega arith) (λ i a b p q. same (suc i) a b p q) in
    let first = same 0 x y refl refl in
    (r.0, ap (λ z. z ∷ xs ++ r.0) first ∙ ap (λ zs. y ∷ zs) r.1)

-- an entry of a prefix is one of the list
pub in_prefix : {A : Type 0} (xs ys : List A) → IsPrefixOf xs ys → (i : ℕ) (x : A) → slice_get xs i ≡ Some x → slice_get ys i ≡ Some x
in_prefix xs ys p i x e = ap (λ zs. slice_get zs i) (sym p.1) ∙ append_some xs p.0 i x e

-- a prefix is what so many first entries are
pub take_prefix : {A : Type 0} (xs ys : List A) → IsPrefixOf xs ys → take (length xs) ys ≡ xs
take_prefix xs ys p = ap (take (length xs)) (sym p.1) ∙ front xs p.0
  where
    front : {A : Type 0} (xs ys : List A) → take (length xs) (xs ++ ys) ≡ xs
    front [] ys = refl
    front (x ∷ xs) ys = ap (λ zs. x ∷ zs) (front xs ys)

-- the first entries stay where more follow
pub take_more : {A : Type 0} (n : ℕ) (xs ys : List A) → n ≤ length xs → take n (xs ++ ys) ≡ take n xs
take_more zero xs ys le = refl
take_more (suc n) [] ys le = absurd (omega arith)
take_more (suc n) (x ∷ xs) ys le = ap (λ zs. x ∷ zs) (take_more n xs ys (omega arith))

-- each place within a list has an entry
pub get_inside : {A : Type 0} (xs : List A) (i : ℕ) → i < length xs → (x : A) × (slice_get xs i ≡ Some x)
get_inside [] i lt = absurd (omega arith)
get_inside (x ∷ xs) zero lt = (x, refl)
get_inside (x ∷ xs) (suc i) lt = get_inside xs i (omega arith)

-- a prefix that is as long as the list is the list
pub prefix_all : {A : Type 0} (xs ys : List A) → IsPrefixOf xs ys → length xs ≡ length ys → xs ≡ ys
prefix_all {A} xs ys p e = no_more p.0 p.1 (let a = length-append xs p.0 in let b = ap length p.1 in omega arith)
  where
    no_more : (rest : List A) → xs ++ rest ≡ ys → length rest ≡ 0 → xs ≡ ys
    no_more [] q z = sym (append-nil xs) ∙ q
    no_more (r ∷ rest) q z = absurd (omega arith)

-- Windows of a list: some items from a place on.
use Rattle.std.proofs.Common.{◌≡◌, ℕ, zero, suc, ◌+◌, ◌-◌, ◌<◌, ◌≤◌, List, [], ◌∷◌, ◌++◌, length, take, drop, set, None, refl, ap, ◌∙◌, arith}
use Rattle.std.specs.Prelude.{slice_get}
use Rattle.std.proofs.lemmas.List.{drop-set-lt, drop-set-add, take-set-le, drop-append-le, take-append-le, length-drop, length-take-le}
use Rattle.std.proofs.Math.Seq.{take-set-lt}

-- the items behind a place are those at the places behind it
pub get_drop : {A : Type 0} (n : ℕ) (xs : List A) (i : ℕ) → slice_get (drop n xs) i ≡ slice_get xs (n + i)
get_drop zero xs i = let e : 0 + i ≡ i = omega arith in rw e refl
get_drop (suc n) [] i = refl
get_drop (suc n) (x ∷ xs) i = let e : suc n + i ≡ suc (n + i) = omega arith in rw e (get_drop n xs i)

-- an item in front of a cut is there behind it
get_take : {A : Type 0} (n : ℕ) (xs : List A) (i : ℕ) → i < n → slice_get (take n xs) i ≡ slice_get xs i
get_take zero xs i lt = absurd (omega arith)
get_take (suc n) [] i lt = refl
get_take (suc n) (x ∷ xs) zero lt = refl
get_take (suc n) (x ∷ xs) (suc i) lt = get_take n xs i (omega arith)

-- behind a cut nothing is left
get_past : {A : Type 0} (n : ℕ) (xs : List A) (i : ℕ) → n ≤ i → slice_get (take n xs) i ≡ None
get_past zero xs i le = refl
get_past (suc n) [] i le = refl
get_past (suc n) (x ∷ xs) zero le = absurd (omega arith)
get_past (suc n) (x ∷ xs) (suc i) le = get_past n xs i (omega arith)

-- an item of a window
pub window_get : {A : Type 0} (c n : ℕ) (xs : List A) (i : ℕ) → i < c → slice_get (take c (drop n xs)) i ≡ slice_get xs (n + i)
window_get c n xs i lt = get_take c (drop n xs) i lt ∙ get_drop n xs i

-- past a window there is nothing
pub window_past : {A : Type 0} (c n : ℕ) (xs : List A) (i : ℕ) → c ≤ i → slice_get (take c (drop n xs)) i ≡ None
window_past c n xs i le = get_past c (drop n xs) i le

-- a window that lies within has its whole length
pub length-window : {A : Type 0} (c n : ℕ) (xs : List A) → n + c ≤ length xs → length (take c (drop n xs)) ≡ c
length-window c n xs le = let e = length-drop n xs in length-take-le c (drop n xs) (omega (arith, e))

-- a write at or above a window's end leaves it
pub window_above : {A : Type 0} (c n : ℕ) (xs : List A) (at : ℕ) (z : A) → n + c ≤ at → take c (drop n (set xs at z)) ≡ take c (drop n xs)
window_above c n xs at z le =
    let e : at ≡ n + (at - n) = omega arith in
    ap (λ k. take c (drop n (set xs k z))) e ∙ (ap (take c) (drop-set-add n xs (at - n) z) ∙ take-set-le c (drop n xs) (at - n) z (omega arith))

-- a write below a window leaves it
pub window_below : {A : Type 0} (c n : ℕ) (xs : List A) (at : ℕ) (z : A) → at < n → take c (drop n (set xs at z)) ≡ take c (drop n xs)
window_below c n xs at z lt = ap (take c) (drop-set-lt n xs at z lt)

-- a write in a window is a write to the window
pub window_in : {A : Type 0} (c n : ℕ) (xs : List A) (i : ℕ) (z : A) → i < c → take c (drop n (set xs (n + i) z)) ≡ set (take c (drop n xs)) i z
window_in c n xs i z lt = ap (take c) (drop-set-add n xs i z) ∙ take-set-lt c (drop n xs) i z lt

-- items behind the list leave its windows
pub window_more : {A : Type 0} (c n : ℕ) (xs ys : List A) → n + c ≤ length xs → take c (drop n (xs ++ ys)) ≡ take c (drop n xs)
window_more c n xs ys le =
    let e = length-drop n xs in
    ap (take c) (drop-append-le n xs ys (omega arith)) ∙ take-append-le c (drop n xs) ys (omega (arith, e))

-- What is left of a list behind some members.
use Rattle.std.proofs.Common.{◌≡◌, ℕ, zero, suc, ◌+◌, List, [], ◌∷◌, drop, ap, ◌∙◌, arith}
use Rattle.std.specs.Prelude.{Some, ◌↔◌, slice_get}

-- the first of a rest
drop_more : {X : Type 0} (xs : List X) (i : ℕ) (x : X) → slice_get xs i ≡ Some x → drop i xs ≡ x ∷ drop (suc i) xs
drop_more [] i x e = absurd (cc)
drop_more (y ∷ xs) zero x e = let same : y ≡ x = cc in ap (λ z. z ∷ xs) same
drop_more (y ∷ xs) (suc i) x e = drop_more xs i x e

-- the same, as a loop counts
pub drop_next : {X : Type 0} (xs : List X) (i : ℕ) (x : X) → slice_get xs i ≡ Some x → drop i xs ≡ x ∷ drop (i + 1) xs
drop_next xs i x e = let next : suc i ≡ i + 1 = omega arith in drop_more xs i x e ∙ ap (λ n. x ∷ drop n xs) next

-- lists with the same first are equal exactly where what is behind it is
behind_same : {X : Type 0} (x y : X) (xs ys : List X) → x ≡ y → (xs ≡ ys) ↔ (x ∷ xs ≡ y ∷ ys)
behind_same x y xs ys same = ((λ rest j. same j ∷ rest j), (λ all. cc))

-- rests with the same first are equal exactly where what is behind it is
pub rest_same : {X : Type 0} (xs ys : List X) (i : ℕ) (x y : X) → slice_get xs i ≡ Some x → slice_get ys i ≡ Some y → x ≡ y
    → (drop (i + 1) xs ≡ drop (i + 1) ys) ↔ (drop i xs ≡ drop i ys)
rest_same xs ys i x y e f same =
    rw (drop_next xs i x e, drop_next ys i y f) (behind_same x y (drop (i + 1) xs) (drop (i + 1) ys) same)

-- Rising numbers below a bound are few.
use Rattle.std.proofs.Common.{ℕ, zero, suc, ◌+◌, ◌<◌, ◌≤◌, List, [], ◌∷◌, length, get_or, All, AllPairs, arith}

-- what stands at a place of rising keys has at least the place's number
pub at_least_place : {X : Type 0} (key : X → ℕ) (xs : List X) → AllPairs (λ a b. key a < key b) xs → (d : X) (i : ℕ) → i < length xs → i ≤ key (get_or xs i d)
at_least_place key xs rising d zero lt = omega arith
at_least_place key xs rising d (suc i) lt =
    let before = at_least_place key xs rising d i (omega arith) in
    let step = rising i (suc i) d (omega arith) lt in
    omega (arith, before, step)

-- rising keys that are all at most a bound
pub few_from_rising : {X : Type 0} (key : X → ℕ) (most : ℕ) (xs : List X) → AllPairs (λ a b. key a < key b) xs → All (λ x. key x ≤ most) xs → length xs ≤ most + 1
few_from_rising key most [] rising each = omega arith
few_from_rising key most (x ∷ xs) rising each =
    let last = at_least_place key (x ∷ xs) rising x (length xs) (omega arith) in
    let high = each (length xs) x (omega arith) in
    omega (arith, last, high)

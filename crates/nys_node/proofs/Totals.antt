-- Sums over the numbers below a bound.
use Rattle.std.proofs.Common.{◌≡◌, ℕ, zero, suc, ◌<◌, ◌≤◌, ◌⊎◌, refl, inl, inr, arith, subst}
use Rattle.std.proofs.Math.Nat.{eq-or-lt_of_le}
use Rattle.nys_node.specs.Weight.{total}

-- where each is the same the sum is
pub total_same : (n : ℕ) (f g : ℕ → ℕ) → ((x : ℕ) → x < n → f x ≡ g x) → total n f ≡ total n g
total_same zero f g same = refl
total_same (suc n) f g same =
    omega (arith, total_same n f g (λ x below. same x (omega (arith, below))), same n (omega arith))

-- where none is more the sum isn't
pub total_within : (n : ℕ) (f g : ℕ → ℕ) → ((x : ℕ) → x < n → f x ≤ g x) → total n f ≤ total n g
total_within zero f g within = omega arith
total_within (suc n) f g within =
    omega (arith, total_within n f g (λ x below. within x (omega (arith, below))), within n (omega arith))

-- where one is less besides, the sum is
pub total_less : (n : ℕ) (f g : ℕ → ℕ) (h : ℕ) → h < n → f h < g h → ((x : ℕ) → x < n → f x ≤ g x) → total n f < total n g
total_less zero f g h below less within = absurd (omega (arith, below))
total_less (suc n) f g h below less within =
    let up : h ≤ n = omega (arith, below) in
    by (eq-or-lt_of_le up) (λ before. total_less n f g h before less rest)
  where
    rest : (x : ℕ) → x < n → f x ≤ g x
    rest x under = within x (omega (arith, under))

    by : (h ≡ n) ⊎ (h < n) → (h < n → total n f < total n g) → total (suc n) f < total (suc n) g
    by (inl last) so = omega (arith, total_within n f g rest, subst (λ x. f x < g x) last less)
    by (inr before) so = omega (arith, so before, within n (omega arith))

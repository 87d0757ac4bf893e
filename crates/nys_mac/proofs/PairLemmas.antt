-- The key of two parties, whichever is named first.
use Rattle.std.proofs.Common.{◌≡◌, ℕ, List, min, max, refl, arith}
use Rattle.nys_mac.specs.Tags.{pair_key}

-- the lesser of the lesser and the greater is the lesser
lesser_of_both : (i j : ℕ) → min (min i j) (max i j) ≡ min i j
lesser_of_both i j = omega arith

-- the greater of the lesser and the greater is the greater
greater_of_both : (i j : ℕ) → max (min i j) (max i j) ≡ max i j
greater_of_both i j = omega arith

-- the key of two parties is that of the lesser and the greater
pub key_in_order : (master : List ℕ) (i j : ℕ) → pair_key master (min i j) (max i j) ≡ pair_key master i j
unfolding pair_key
key_in_order master i j = rw (lesser_of_both i j, greater_of_both i j) refl

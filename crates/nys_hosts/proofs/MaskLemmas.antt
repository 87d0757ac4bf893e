-- Masks, bit by bit, and how many hosts one has.
use Rattle.std.proofs.Common.{◌≡◌, ℕ, zero, suc, ◌+◌, ◌%◌, ◌^◌, ◌<◌, Bool, true, false, cond, ◌==◌, ◌||◌, ◌&&◌, nat_lt, max, min, bit_or, bit_and, refl, sym, ap, ◌∙◌, inl, inr, arith, eq-eqb, count_ones, add_comm, mod-lt, pow_pos}
use Rattle.std.specs.Int.{bit_at}
use Rattle.std.proofs.lemmas.Bool.{cases_eq, ne_eqb}
use Rattle.std.proofs.lemmas.Nat.{mod-pow-add, ones_cat}
use Rattle.std.proofs.Math.Nat.{mod-eq_of_lt, mod-one}
use Rattle.std.proofs.lemmas.Nat.Bits.{bit_at_and, bit_at_or, bit_at-pow_same, bit_at-pow_other, bit_at-lt, bit_at-zero}
use lib.Count.{ones}
use Rattle.nys_hosts.specs.Masks.{in_mask}
use Rattle.nys_hosts.specs.Counts.{count_below, hosts_with}
use Rattle.nys_hosts.proofs.CountLemmas.{count_below-same, count_below-suc, count_below-zero}

-- the greater of two bits is 1 where one of them is
or_bits : (x y : ℕ) → x < 2 → y < 2 → (max x y == 1) ≡ ((x == 1) || (y == 1))
or_bits x y p q = grind arith

-- the lesser of two bits is 1 where both are
and_bits : (x y : ℕ) → x < 2 → y < 2 → (min x y == 1) ≡ ((x == 1) && (y == 1))
and_bits x y p q = grind arith

-- the only bit of a power of two is its exponent
bit_at-pow : (h k : ℕ) → (bit_at (2 ^ h) k == 1) ≡ (h == k)
bit_at-pow h k =
    elim (cases_eq h k) [
      | inl e ↦ rw (eq-eqb h k e) (rw (sym e) (rw (bit_at-pow_same h) refl))
      | inr ne ↦ rw (ne_eqb h k ne) (rw (bit_at-pow_other h k (λ e. ne (sym e))) refl)
    ]

-- a mask that is zero has no host
pub in_mask-zero : (h : ℕ) → in_mask 0 h ≡ false
unfolding in_mask
in_mask-zero h = rw (bit_at-zero h) (and_false (nat_lt h 32))
  where
    and_false : (b : Bool) → (b && false) ≡ false
    and_false true = refl
    and_false false = refl

-- a mask with the bit of one host has that host beside its own
pub in_mask-or : (mask h k : ℕ) → h < 32 → in_mask (bit_or mask (2 ^ h)) k ≡ (in_mask mask k || (h == k))
unfolding in_mask
in_mask-or mask h k below =
    rw (bit_at_or mask (2 ^ h) k, or_bits (bit_at mask k) (bit_at (2 ^ h) k) (bit_at-lt mask k) (bit_at-lt (2 ^ h) k), bit_at-pow h k)
    (inside h k (bit_at mask k == 1) below)
  where
    inside : (h k : ℕ) (b : Bool) → h < 32 → (nat_lt k 32 && (b || (h == k))) ≡ ((nat_lt k 32 && b) || (h == k))
    inside h k true below = grind arith
    inside h k false below = grind arith

-- the bits that two masks share are the hosts of both
pub in_mask-and : (a b h : ℕ) → in_mask (bit_and a b) h ≡ (in_mask a h && in_mask b h)
unfolding in_mask
in_mask-and a b h =
    rw (bit_at_and a b h, and_bits (bit_at a h) (bit_at b h) (bit_at-lt a h) (bit_at-lt b h))
    (inside (nat_lt h 32) (bit_at a h == 1) (bit_at b h == 1))
  where
    inside : (x y z : Bool) → (x && (y && z)) ≡ ((x && y) && (x && z))
    inside true y z = refl
    inside false y z = refl

-- a bit is as many ones as it is
ones-bit : (b : ℕ) → b < 2 → count_ones b ≡ cond (b == 1) 1 0
unfolding ones
ones-bit zero h = refl
ones-bit (suc zero) h = refl
ones-bit (suc (suc b)) h = absurd (omega arith)

-- the ones of a number's lowest n bits, counted bit by bit
ones_low : (mask n : ℕ) → count_ones (mask % 2 ^ n) ≡ count_below (λ h. bit_at mask h == 1) n
unfolding ones
ones_low mask zero = rw (mod-one mask, count_below-zero (λ h. bit_at mask h == 1)) refl
ones_low mask (suc n) =
    let e : suc n ≡ 1 + n = omega arith in
    ap (λ k. count_ones (mask % 2 ^ k)) e
    ∙ ap count_ones (mod-pow-add mask 1 n)
    ∙ ones_cat n (bit_at mask n) (mask % 2 ^ n) (mod-lt mask (pow_pos n))
    ∙ rw (ones-bit (bit_at mask n) (bit_at-lt mask n), ones_low mask n, count_below-suc (λ h. bit_at mask h == 1) n)
    (add_comm (cond (bit_at mask n == 1) 1 0) (count_below (λ h. bit_at mask h == 1) n))

-- a mask of 32 bits has as many ones as hosts
pub count_ones-mask : (mask : ℕ) → mask < 2 ^ 32 → count_ones mask ≡ hosts_with (in_mask mask)
unfolding hosts_with in_mask
count_ones-mask mask fits =
    ap count_ones (sym (mod-eq_of_lt fits)) ∙ ones_low mask 32
    ∙ count_below-same (λ h. bit_at mask h == 1) (in_mask mask) 32 (λ h below. grind arith)

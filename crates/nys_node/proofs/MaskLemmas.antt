-- The hosts of a mask, by its lowest bit behind those that were looked at.
use Rattle.std.proofs.Common.{◌≡◌, ℕ, ◌+◌, ◌-◌, ◌%◌, ◌/◌, ◌^◌, ◌<◌, ◌≤◌, Bool, true, false, ◌&&◌, nat_lt, refl, sym, ap, ◌∙◌, arith}
use Rattle.std.specs.Int.{bit_at, trailing_zeros, w32}
use Rattle.std.proofs.lemmas.Bool.{lt-ltb, le-ltb}
use Rattle.std.proofs.lemmas.Nat.{pow-add}
use Rattle.std.proofs.lemmas.Nat.Bits.{bit_at-trailing_zeros, bit_at-zero, bit_at_above}
use Rattle.std.proofs.Math.Nat.{div-div-eq-div-mul}
use Rattle.nys_hosts.specs.Masks.{in_mask}
use Rattle.nys_node.specs.Masks.{HasNone, IsNext}

-- a bit of what is left of a number without its lowest k bits
bit_at-shifted : (n k i : ℕ) → bit_at (n / 2 ^ k) i ≡ bit_at n (k + i)
bit_at-shifted n k i =
    ap (λ (x : ℕ). x % 2) (div-div-eq-div-mul n (2 ^ k) (2 ^ i) ∙ ap (λ (p : ℕ). n / p) (sym (pow-add 2 k i)))

-- the same, by the place in the whole number
bit_at-behind : (n k i : ℕ) → k ≤ i → bit_at n i ≡ bit_at (n / 2 ^ k) (i - k)
bit_at-behind n k i behind =
    let place : i ≡ k + (i - k) = omega (arith, behind) in
    ap (bit_at n) place ∙ sym (bit_at-shifted n k (i - k))

-- a host whose bit is 0 isn't in the mask
clear : (mask q : ℕ) → bit_at mask q ≡ 0 → in_mask mask q ≡ false
unfolding in_mask
clear mask q e = rw e (and_false (nat_lt q 32))
  where
    and_false : (b : Bool) → (b && false) ≡ false
    and_false true = refl
    and_false false = refl

-- a host whose bit is 1 is in it
set : (mask q : ℕ) → q < 32 → bit_at mask q ≡ 1 → in_mask mask q ≡ true
unfolding in_mask
set mask q below e = rw e (rw (lt-ltb q 32 below) refl)

-- no mask has a host past the last
past_last : (mask q : ℕ) → 32 ≤ q → in_mask mask q ≡ false
unfolding in_mask
past_last mask q past = rw (le-ltb q 32 past) refl

-- nor one behind it
pub none_past : (mask from : ℕ) → 32 ≤ from → HasNone mask from
none_past mask from past q above = past_last mask q (omega (arith, past, above))

-- the mask without bits has no host
pub no_host : (q : ℕ) → in_mask 0 q ≡ false
no_host q = clear 0 q (bit_at-zero q)

-- where no bit is left there is none
pub none_left : (mask from : ℕ) → mask / 2 ^ from ≡ 0 → HasNone mask from
none_left mask from empty q above =
    clear mask q (bit_at-behind mask from q above ∙ ap (λ (n : ℕ). bit_at n (q - from)) empty ∙ bit_at-zero (q - from))

-- the lowest bit that is left is that of the next host
pub next_left : (mask from : ℕ) → mask < 2 ^ 32 → mask / 2 ^ from < 2 ^ 32 → 0 < mask / 2 ^ from
    → IsNext mask from (from + trailing_zeros w32 (mask / 2 ^ from))
next_left mask from fits rest_fits some = record {
  above = omega arith;
  host = host;
  found = set mask at host bit;
  first = λ q above before. clear mask q (bit_at-behind mask from q above ∙ lowest.2 (q - from) (omega (arith, above, before)));
}
  where
    lowest : (trailing_zeros w32 (mask / 2 ^ from) < 32) × (bit_at (mask / 2 ^ from) (trailing_zeros w32 (mask / 2 ^ from)) ≡ 1) × ((i : ℕ) → i < trailing_zeros w32 (mask / 2 ^ from) → bit_at (mask / 2 ^ from) i ≡ 0)
    lowest = bit_at-trailing_zeros w32 (mask / 2 ^ from) some rest_fits

    at : ℕ
    at = from + trailing_zeros w32 (mask / 2 ^ from)

    bit : bit_at mask at ≡ 1
    bit = sym (bit_at-shifted mask from (trailing_zeros w32 (mask / 2 ^ from))) ∙ lowest.1

    below : (mask q : ℕ) → mask < 2 ^ 32 → bit_at mask q ≡ 1 → q < 32
    below mask q fits one = grind (bit_at_above mask 32 q fits, one, arith)

    host : at < 32
    host = below mask at fits bit

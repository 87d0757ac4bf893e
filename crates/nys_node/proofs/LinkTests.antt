-- Which links began, when one more does.
use Rattle.std.proofs.Common.{◌≡◌, ℕ, ◌+◌, ◌<◌, ◌≤◌, ◌==◌, Bool, true, false, ◌&&◌, ◌||◌, nat_lt, refl, ap, sym, ◌∙◌, arith, lt-ltb}
use Rattle.std.proofs.lemmas.Bool.{le-ltb}
use Rattle.nys_node.specs.Linking.{links_from, links_to, one_link}

-- no number is below 0
none_below : (n : ℕ) → nat_lt n 0 ≡ false
none_below n = le-ltb n 0 (omega arith)

-- none of the links from a host
pub none_to : (p q h : ℕ) → links_to p 0 q h ≡ false
none_to p q h = by (q == p)
  where
    by : (b : Bool) → (b && nat_lt h 0) ≡ false
    by true = none_below h
    by false = refl

-- none of all links
pub none_from : (q h : ℕ) → links_from 0 q h ≡ false
none_from q h = none_below q

-- a number is below the next exactly where it is that number or below it
below_next : (n k : ℕ) → nat_lt n (k + 1) ≡ ((n == k) || nat_lt n k)
below_next n k = grind arith

-- the links to hosts below the next
pub one_more_to : (p k q h : ℕ) → links_to p (k + 1) q h ≡ (one_link p k q h || links_to p k q h)
one_more_to p k q h = by (q == p)
  where
    by : (b : Bool) → (b && nat_lt h (k + 1)) ≡ ((b && (h == k)) || (b && nat_lt h k))
    by true = below_next h k
    by false = refl

-- the links from hosts below the next
pub one_more_from : (k q h : ℕ) → h < 32 → links_from (k + 1) q h ≡ (links_to k 32 q h || links_from k q h)
one_more_from k q h under = below_next q k ∙ by (q == k)
  where
    by : (b : Bool) → (b || nat_lt q k) ≡ ((b && nat_lt h 32) || nat_lt q k)
    by true = ap (λ x. x || nat_lt q k) (sym (lt-ltb h 32 under))
    by false = refl

-- at most 32 and at least that
pub most_is : (n : ℕ) → 32 ≤ n → n ≤ 32 → n ≡ 32
most_is n least most = omega (arith, least, most)

-- the first of two tests passes, so the second tells
pub second_tells : (a x r y : Bool) → a ≡ true → a ≡ x → r ≡ y → r ≡ (x && y)
second_tells true x r y e is same = rw (sym is) same
second_tells false x r y e is same = absurd (cc)

-- The places of pairs of hosts in a table.
use Rattle.std.proofs.Common.{ℕ, ◌+◌, ◌-◌, ◌*◌, ◌/◌, ◌<◌, ◌≤◌, ◌≢◌, ◌≡◌, refl, sym, subst, arith, inl, inr, Option, None, Some}
use Rattle.std.proofs.lemmas.Bool.{cases_lt, cond_below, cond_above}
use Rattle.std.proofs.lemmas.Nat.{mul-le}
use Rattle.nys_outside.specs.Frames.{AreLinked}
use Rattle.nys_frame.specs.Pairs.{pairs_of, place_of, HasPairs}

-- twice the pairs of a greater number of hosts, by numbers that are one less
pub twice_pairs : (a b : ℕ) → a < b → (a + 1) * a + (a + 1) + (a + 1) ≤ (b + 1) * b
twice_pairs a b less =
    let square : (a + 1) * a + (a + 1) + (a + 1) ≡ (a + 2) * (a + 1) = grind arith in
    let most : (a + 2) * (a + 1) ≤ (b + 1) * b = mul-le (a + 2) (a + 1) (b + 1) b (omega arith) (omega arith) in
    omega arith

-- the pairs of so many hosts and one more
pub pairs_suc : (a : ℕ) → pairs_of (a + 1) ≡ (a + 1) * a / 2
pairs_suc a = let less : a + 1 - 1 ≡ a = omega arith in subst (λ n. (a + 1) * n / 2 ≡ (a + 1) * a / 2) (sym less) refl

-- the place of a pair is below the number of all pairs, by numbers that are one less
pub pair_below_suc : (low a b : ℕ) → low < a + 1 → a < b → pairs_of (a + 1) + low < pairs_of (b + 1)
pair_below_suc low a b less below =
    let twice : (a + 1) * a + (a + 1) + (a + 1) ≤ (b + 1) * b = twice_pairs a b below in
    rw (pairs_suc a, pairs_suc b) (omega arith)

-- the place of a pair is below the number of all pairs
pub pair_below : (low high n : ℕ) → low < high → high < n → pairs_of high + low < pairs_of n
pair_below low high n less below =
    let high_is : high - 1 + 1 ≡ high = omega arith in
    let n_is : n - 1 + 1 ≡ n = omega arith in
    let reduced : pairs_of (high - 1 + 1) + low < pairs_of (n - 1 + 1) = pair_below_suc low (high - 1) (n - 1) (omega arith) (omega arith) in
    subst (λ m. pairs_of high + low < pairs_of m) n_is (subst (λ m. pairs_of m + low < pairs_of (n - 1 + 1)) high_is reduced)

-- the pair of two connected hosts has its place in the table
pub linked_pair : (hosts : Option ℕ) (from to places : ℕ) → AreLinked hosts from to → HasPairs hosts places → place_of from to < places
linked_pair None from to places linked room = absurd linked
linked_pair (Some n) from to places linked room =
    let few : pairs_of n ≤ places = room in
    elim (cases_lt from to) [
      | inl up ↦ let place : place_of from to ≡ pairs_of to + from = sym (cond_below from to (pairs_of to + from) (pairs_of from + to) up) in
          let below : pairs_of to + from < pairs_of n = pair_below from to n up linked.1 in omega arith
      | inr down ↦ let apart : from ≢ to = linked.2 in
          let less : to < from = omega arith in
          let place : place_of from to ≡ pairs_of from + to = sym (cond_above from to (pairs_of to + from) (pairs_of from + to) (pairs_of from + to) down refl) in
          let below : pairs_of from + to < pairs_of n = pair_below to from n less linked.0 in omega arith
    ]

-- Lists that rise, and lists of parties.
use Rattle.std.proofs.Common.{◌≡◌, ◌<◌, ◌≤◌, ◌+◌, ℕ, true, List, [], ◌∷◌, ◌++◌, length, nat_lt, take, drop, get_or, sym, ◌∙◌, subst, arith}
use Rattle.std.specs.Prelude.{All, AllPairs}
use Rattle.std.specs.List.{list_all}
use Rattle.std.proofs.lemmas.Bool.{leb-true}
use Rattle.std.proofs.lemmas.Bool.Decides.{Decides-ltb}
use Rattle.std.proofs.lemmas.List.{at_drop_more, take-append-drop}
use Rattle.std.proofs.lemmas.List.Elements.{All-cons, All-head, All-weaker}
use Rattle.std.proofs.lemmas.List.Kept.{AllPairs-cons}
use Rattle.std.proofs.lemmas.List.Sums.{AllPass-from_list_all}
use Rattle.nys_rules.proofs.CertificateLemmas.{both_true}
use Rattle.nys_schedule.specs.Lists.{is_any_party, rise_from}

-- of no elements anything is true
pub all_none : {A : Type 0} (P : A → Type 0) → All P []
all_none P = λ i d lt. absurd (omega (arith, lt))

-- of no elements nothing is out of order
pub pairs_none : {A : Type 0} (R : A → A → Type 0) → AllPairs R []
pairs_none R = λ i j d lt within. absurd (omega (arith, within))

-- the first of two that rise is below the second
pub rise_first : (n m : ℕ) (ms : List ℕ) → rise_from n (m ∷ ms) ≡ true → n < m
rise_first n m ms e = (Decides-ltb n m).0 (both_true (nat_lt n m) (rise_from m ms) e).0

-- behind the first the rest rises
pub rise_rest : (n m : ℕ) (ms : List ℕ) → rise_from n (m ∷ ms) ≡ true → rise_from m ms ≡ true
rise_rest n m ms e = (both_true (nat_lt n m) (rise_from m ms) e).1

-- what rises from a number is above it
pub all_above : (n : ℕ) (ms : List ℕ) → rise_from n ms ≡ true → All (λ m. n < m) ms
all_above n [] e = all_none (λ m. n < m)
all_above n (m ∷ ms) e =
    let first = rise_first n m ms e in
    All-cons (λ k. n < k) m ms first
    (All-weaker (λ k. m < k) (λ k. n < k) (λ k lt. omega (arith, first, lt)) ms (all_above m ms (rise_rest n m ms e)))

-- of numbers that rise each is below all behind it
pub pairs_rise : (n : ℕ) (ms : List ℕ) → rise_from n ms ≡ true → AllPairs (λ a b. a < b) (n ∷ ms)
pairs_rise n [] e = AllPairs-cons (λ a b. a < b) n [] (all_none (λ m. n < m)) (pairs_none (λ a b. a < b))
pairs_rise n (m ∷ ms) e =
    AllPairs-cons (λ a b. a < b) n (m ∷ ms) (all_above n (m ∷ ms) e) (pairs_rise m ms (rise_rest n m ms e))

-- where numbers rise, those in front of one are below it
pub front_below : (n : ℕ) (front : List ℕ) (m : ℕ) (behind : List ℕ)
    → rise_from n (front ++ m ∷ behind) ≡ true
    → All (λ p. p < m) (n ∷ front)
front_below n [] m behind e =
    All-cons (λ p. p < m) n [] (rise_first n m behind e) (all_none (λ p. p < m))
front_below n (k ∷ front) m behind e =
    let rest = front_below k front m behind (rise_rest n k (front ++ m ∷ behind) e) in
    let low = rise_first n k (front ++ m ∷ behind) e in
    let high : k < m = All-head (λ p. p < m) k front rest in
    All-cons (λ p. p < m) n (k ∷ front) (omega (arith, low, high)) rest

-- each number that passes is at most the last party
pub parties_within : (ns : List ℕ) → list_all is_any_party ns ≡ true → All (λ p. p ≤ 32) ns
parties_within ns e =
    All-weaker (λ p. is_any_party p ≡ true) (λ p. p ≤ 32) (λ p t. leb-true p 32 t) ns (AllPass-from_list_all is_any_party ns e)

-- the next of numbers that rise is above the first and those so far
pub next_above : (n : ℕ) (ms parties : List ℕ) (i : ℕ) → i < length ms → rise_from n ms ≡ true
    → parties ≡ n ∷ take i ms
    → All (λ p. p < get_or ms i 0) parties
next_above n ms parties i lt e same =
    let m = get_or ms i 0 in
    let split : take i ms ++ m ∷ drop (i + 1) ms ≡ ms =
    sym (at_drop_more (λ xs. take i ms ++ xs) ms i 0 lt) ∙ take-append-drop i ms in
    subst (All (λ p. p < m)) (sym same)
    (front_below n (take i ms) m (drop (i + 1) ms) (subst (λ xs. rise_from n xs ≡ true) (sym split) e))

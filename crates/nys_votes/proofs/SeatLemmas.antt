-- Seats by maker, counted: each seat is a host's, so a count of seats is a count of hosts.
use Rattle.std.proofs.Common.{◌≡◌, ℕ, zero, suc, ◌+◌, ◌<◌, ◌≤◌, Bool, true, false, cond, List, [], ◌∷◌, length, get_or, count_by, refl, sym, ap, ◌∙◌, arith, zero-add}
use Rattle.std.specs.Prelude.{Option, Some, None, is_some, ◌↔◌}
use Rattle.std.specs.List.{find, range_with_len}
use Rattle.std.specs.Option.{option_flatten}
use Rattle.std.proofs.lemmas.List.Sums.{sum_by-cons}
use Rattle.nys_hosts.specs.Counts.{AtLeast, count_below, hosts_with}
use Rattle.nys_hosts.proofs.CountLemmas.{hosts_with-within}
use Rattle.nys_votes.specs.Meaning.{Holds}
use Rattle.nys_votes.specs.Seats.{count_all, count_seats, is_seated, lowest, passes, seat_of}

-- a list counts as its range of places does
pub count_by-places : {X : Type 0} (p : X → Bool) (f : ℕ → Bool) (d : X) (a : ℕ) (xs : List X)
    → ((i : ℕ) → i < length xs → f (a + i) ≡ p (get_or xs i d)) → count_by p xs ≡ count_by f (range_with_len a (length xs))
count_by-places p f d a [] same = refl
count_by-places p f d a (x ∷ xs) same =
    sum_by-cons (λ y. cond (p y) 1 0) x xs
    ∙ ap (λ b. cond b 1 0 + count_by p xs) (sym (same 0 (omega arith)) ∙ ap f (omega arith))
    ∙ ap (λ n. cond (f a) 1 0 + n)
    (count_by-places p f d (a + 1) xs (λ i below. ap f (omega arith) ∙ same (suc i) (omega (arith, below))))
    ∙ sym (sum_by-cons (λ y. cond (f y) 1 0) a (range_with_len (a + 1) (length xs)))

-- 32 seats count as the hosts that have them
pub count_seats-hosts : {A : Type 0} (test : A → Bool) (seats : List (Option A)) → length seats ≡ 32
    → count_seats test seats ≡ hosts_with (λ m. passes test (seat_of seats m))
unfolding count_seats hosts_with count_below
count_seats-hosts test seats long =
    count_by-places (passes test) (λ m. passes test (seat_of seats m)) None 0 seats (λ i below. ap (λ k. passes test (seat_of seats k)) (zero-add i))
    ∙ ap (λ n. count_by (λ m. passes test (seat_of seats m)) (range_with_len 0 n)) long

-- what passes is kept
pub passes-holds : {A : Type 0} (test : A → Bool) (o : Option A) → passes test o ≡ true → (x : A) × (o ≡ Some x) × (test x ≡ true)
passes-holds test None e = absurd (cc)
passes-holds test (Some x) e = (x, refl, e)

-- what is kept and passes the test passes
pub holds-passes : {A : Type 0} (test : A → Bool) (o : Option A) (x : A) → o ≡ Some x → test x ≡ true → passes test o ≡ true
holds-passes test o x is e = ap (λ p. passes test p) is ∙ e

-- a count of seats is one of different makers of a fact that the test decides
pub counts_makers : {A : Type 0} (test : A → Bool) (P : ℕ → Type 0) (seats : List (Option A)) (n : ℕ) → length seats ≡ 32
    → ((m : ℕ) → passes test (seat_of seats m) ≡ true → P m) → ((m : ℕ) → P m → passes test (seat_of seats m) ≡ true)
    → (n ≤ count_seats test seats) ↔ AtLeast n P
counts_makers test P seats n long gives takes = (
  (λ enough. record {
    makers = λ m. passes test (seat_of seats m);
    each = gives;
    enough = omega (arith, enough, count_seats-hosts test seats long);
  }),
  (λ some. omega (
    arith,
    some.enough,
    count_seats-hosts test seats long,
    hosts_with-within some.makers (λ m. passes test (seat_of seats m)) (λ h below made. takes h (some.each h made)),
  )),
)

-- of those that pass a test
pub counts_seats : {A : Type 0} (test : A → Bool) (seats : List (Option A)) (n : ℕ) → length seats ≡ 32
    → (n ≤ count_seats test seats) ↔ AtLeast n (Holds test seats)
counts_seats test seats n long =
    counts_makers test (Holds test seats) seats n long (λ m e. passes-holds test (seat_of seats m) e)
    (λ m holds. holds-passes test (seat_of seats m) holds.0 holds.1 holds.2)

-- a seat that is taken
is_some-passes : {A : Type 0} (o : Option A) → passes (λ _. true) o ≡ is_some o
is_some-passes None = refl
is_some-passes (Some x) = refl

-- of all that are kept
pub counts_kept : {A : Type 0} (seats : List (Option A)) (n : ℕ) → length seats ≡ 32
    → (n ≤ count_all seats) ↔ AtLeast n (λ m. is_seated seats m ≡ true)
counts_kept seats n long =
    counts_makers (λ _. true) (λ m. is_seated seats m ≡ true) seats n long
    (λ m e. sym (is_some-passes (seat_of seats m)) ∙ e) (λ m e. is_some-passes (seat_of seats m) ∙ e)

-- what is found passes the test
pub lowest-passes : {A : Type 0} (test : A → Bool) (seats : List (Option A)) (x : A) → lowest test seats ≡ Some x → test x ≡ true
unfolding lowest
lowest-passes test [] x e = absurd (cc)
lowest-passes test (None ∷ seats) x e = lowest-passes test seats x e
lowest-passes {A} test (Some y ∷ seats) x e = by (test y) refl e (λ found. lowest-passes test seats x found)
  where
    by : (b : Bool) → test y ≡ b → option_flatten (cond b (Some (Some y)) (find (passes test) seats)) ≡ Some x
        → (option_flatten (find (passes test) seats) ≡ Some x → test x ≡ true) → test x ≡ true
    by true is found rest = let same : y ≡ x = cc in ap test (sym same) ∙ is
    by false is found rest = rest found

-- where a maker passes the test, one is found
pub lowest-found : {A : Type 0} (test : A → Bool) (seats : List (Option A)) (m : ℕ) (x : A) → seat_of seats m ≡ Some x → test x ≡ true
    → is_some (lowest test seats) ≡ true
unfolding lowest
lowest-found test [] m x is e = absurd (cc)
lowest-found test (None ∷ seats) zero x is e = absurd (cc)
lowest-found test (None ∷ seats) (suc m) x is e = lowest-found test seats m x is e
lowest-found {A} test (Some y ∷ seats) zero x is e = by (test y) (let same : y ≡ x = cc in ap test same ∙ e)
  where
    by : (b : Bool) → b ≡ true → is_some (option_flatten (cond b (Some (Some y)) (find (passes test) seats))) ≡ true
    by true is = refl
    by false is = absurd (cc)
lowest-found {A} test (Some y ∷ seats) (suc m) x is e = by (test y) (lowest-found test seats m x is e)
  where
    by : (b : Bool) → is_some (option_flatten (find (passes test) seats)) ≡ true
        → is_some (option_flatten (cond b (Some (Some y)) (find (passes test) seats))) ≡ true
    by true rest = refl
    by false rest = rest

-- of two tests that nothing passes both, the counts are within all that are kept
pub count_seats-apart : {A : Type 0} (p q : A → Bool) (seats : List (Option A)) → ((x : A) → p x ≡ true → q x ≡ true → ⊥)
    → count_seats p seats + count_seats q seats ≤ count_all seats
unfolding count_seats
count_seats-apart p q [] apart = omega arith
count_seats-apart {A} p q (o ∷ seats) apart =
    omega (
      arith,
      sum_by-cons (λ y. cond (passes p y) 1 0) o seats,
      sum_by-cons (λ y. cond (passes q y) 1 0) o seats,
      sum_by-cons (λ y. cond (passes (λ _. true) y) 1 0) o seats,
      count_seats-apart p q seats apart,
      one o,
    )
  where
    each : (a b : Bool) → (a ≡ true → b ≡ true → ⊥) → cond a 1 0 + cond b 1 0 ≤ 1
    each true true e = absurd (e refl refl)
    each true false e = omega arith
    each false true e = omega arith
    each false false e = omega arith

    one : (o : Option A) → cond (passes p o) 1 0 + cond (passes q o) 1 0 ≤ cond (passes (λ _. true) o) 1 0
    one None = omega arith
    one (Some x) = each (p x) (q x) (apart x)

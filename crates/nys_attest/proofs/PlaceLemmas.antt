-- Places of lists and of windows.
use Rattle.std.proofs.Common.{◌≡◌, ℕ, zero, suc, ◌+◌, ◌-◌, ◌<◌, ◌≤◌, ℤ, Bool, true, false, cond, ◌==◌, ◌&&◌, List, [], ◌∷◌, ◌++◌, drop, length, refl, sym, ap, ◌∙◌, arith, le-leb, lt-ltb, ◌⊎◌, inl, inr}
use Rattle.std.specs.Prelude.{Option, None, nat_le, nat_lt, replicate, slice_index_or}
use Rattle.std.proofs.lemmas.Bool.{cases_lt, eqb-false, le-ltb}
use Rattle.std.proofs.lemmas.Bool.Decides.{Decides-eqb, leb_tells}
use Rattle.nys_source.specs.Tables.{put}
use Rattle.nys_votes.specs.Seats.{no_seats, seat_of}
use Rattle.nys_attest.specs.Windows.{seats_in, seats_in_place, seats_of, Window}

-- one more empty place has nothing
pub one_more : {A : Type 0} (xs : List (Option A)) (i : ℕ) → slice_index_or (xs ++ None ∷ []) i None ≡ slice_index_or xs i None
one_more [] zero = refl
one_more [] (suc i) = refl
one_more (x ∷ xs) zero = refl
one_more (x ∷ xs) (suc i) = one_more xs i

-- past the end is nothing
past : {A : Type 0} (xs : List (Option A)) (i : ℕ) → length xs ≤ i → slice_index_or xs i None ≡ None
past [] i all = refl
past (x ∷ xs) zero all = absurd (omega (arith, all))
past (x ∷ xs) (suc i) all = past xs i (omega (arith, all))

-- without the first, each stands one place lower
lower : {A : Type 0} (xs : List (Option A)) (i : ℕ) → slice_index_or (drop 1 xs) i None ≡ slice_index_or xs (suc i) None
lower [] i = refl
lower (x ∷ xs) i = refl

-- a list of one value has that at each place
pub same_all : {X : Type 0} (n i : ℕ) (x : X) → slice_index_or (replicate n x) i x ≡ x
same_all zero i x = refl
same_all (suc n) zero x = refl
same_all (suc n) (suc i) x = same_all n i x

-- an empty seat has nothing
pub empty_seat : {A : Type 0} (m : ℕ) → seat_of (no_seats {A = A}) m ≡ None
empty_seat m = same_all 32 m None

-- a greater number isn't at most the other
not_le : (a b : ℕ) → b < a → nat_le a b ≡ false
not_le a b less = pick (leb_tells a b)
  where
    pick : ((nat_le a b ≡ true) × (a ≤ b)) ⊎ ((nat_le a b ≡ false) × (b < a)) → nat_le a b ≡ false
    pick (inl most) = absurd (omega (arith, most.1, less))
    pick (inr least) = least.0

-- both of two tests
both : (a b : Bool) → a ≡ true → b ≡ true → (a && b) ≡ true
both true b e f = f
both false b e f = absurd (cc)

-- the first of two tests fails
first_fails : (a b : Bool) → a ≡ false → (a && b) ≡ false
first_fails true b e = absurd (cc)
first_fails false b e = refl

-- the second of two tests fails
second_fails : (a b : Bool) → b ≡ false → (a && b) ≡ false
second_fails true b e = e
second_fails false b e = refl

-- a number of the window has the seats of its place
inside : (w : Window) (k i : ℕ) → w.next + i ≡ k → i < 64 → seats_of w k ≡ seats_in_place w.kept i
unfolding seats_of
inside w k i at few =
    ap (λ b. cond b (seats_in_place w.kept (k - w.next)) no_seats)
    (both (nat_le w.next k) (nat_lt k (w.next + 64)) (le-leb w.next k (omega (arith, at))) (lt-ltb k (w.next + 64) (omega (arith, at, few))))
    ∙ ap (λ j. seats_in_place w.kept j) (let same : k - w.next ≡ i = omega (arith, at) in same)

-- below the window is nothing
below : (w : Window) (k : ℕ) → k < w.next → seats_of w k ≡ no_seats
unfolding seats_of
below w k few =
    ap (λ b. cond b (seats_in_place w.kept (k - w.next)) no_seats)
    (first_fails (nat_le w.next k) (nat_lt k (w.next + 64)) (not_le w.next k few))

-- above the window is nothing
above : (w : Window) (k : ℕ) → w.next + 64 ≤ k → seats_of w k ≡ no_seats
unfolding seats_of
above w k many =
    ap (λ b. cond b (seats_in_place w.kept (k - w.next)) no_seats)
    (second_fails (nat_le w.next k) (nat_lt k (w.next + 64)) (le-ltb k (w.next + 64) many))

-- the window that begins one number later keeps what it kept, but for the first number
pub moved : (next : ℕ) (kept : List (Option (List (Option (List ℤ))))) (k : ℕ) → length kept ≤ 64
    → seats_of (record { next = next + 1; kept = drop 1 kept }) k ≡ put (seats_of (record { next = next; kept = kept })) next no_seats k
moved next kept k few = by (k == next) refl
  where
    old : Window
    old = record { next = next; kept = kept }

    new : Window
    new = record { next = next + 1; kept = drop 1 kept }

    later : next < k → seats_of new k ≡ seats_of old k
    later more = split (cases_lt k (next + 64)) (cases_lt k (next + 65))
      where
        at : (i : ℕ) → next + 1 + i ≡ k → i < 64 → seats_of new k ≡ seats_in_place kept (suc i)
        at i is room = inside new k i is room ∙ ap (λ s. seats_in s) (lower kept i)

        split : (k < next + 64) ⊎ (next + 64 ≤ k) → (k < next + 65) ⊎ (next + 65 ≤ k) → seats_of new k ≡ seats_of old k
        split (inl in_old) in_new =
            at (k - (next + 1)) (omega (arith, more)) (omega (arith, more, in_old))
            ∙ sym (inside old k (suc (k - (next + 1))) (omega (arith, more)) (omega (arith, more, in_old)))
        split (inr past_old) (inl in_new) =
            at 63 (omega (arith, past_old, in_new)) (omega arith) ∙ ap (λ s. seats_in s) (past kept 64 few) ∙ sym (above old k past_old)
        split (inr past_old) (inr past_new) = above new k (omega (arith, past_new)) ∙ sym (above old k past_old)

    other : (next < k) ⊎ (k ≤ next) → (k ≡ next → ⊥) → seats_of new k ≡ seats_of old k
    other (inl more) differ = later more
    other (inr less) differ = below new k (omega (arith, less)) ∙ sym (below old k (omega (arith, less, differ)))

    by : (b : Bool) → (k == next) ≡ b → seats_of new k ≡ cond b no_seats (seats_of old k)
    by true e = below new k (let same : k ≡ next = (Decides-eqb k next).0 e in omega (arith, same))
    by false e = other (cases_lt next k) (eqb-false k next e)

-- A table in which the window of one link is another.
use Rattle.std.proofs.Common.{◌≡◌, ℕ, zero, suc, ◌<◌, ℤ, Bool, true, false, cond, ◌==◌, List, [], ◌∷◌, length, refl, sym, ap, ◌∙◌, arith}
use Rattle.std.specs.Prelude.{Option, replicate, slice_index_or, slice_set}
use Rattle.std.proofs.lemmas.Bool.{eqb-false}
use Rattle.std.proofs.lemmas.Bool.Decides.{Decides-eqb}
use Rattle.std.proofs.lemmas.Grind.{get_or-set_at}
use Rattle.std.proofs.lemmas.List.{get_or-set_other}
use Rattle.nys_source.specs.Tables.{put, put_at}
use Rattle.nys_votes.specs.Seats.{no_seats}
use Rattle.nys_attest.specs.Windows.{is_in_window, next_of, no_window, seats_at, seats_of, Window}
use Rattle.nys_attest.proofs.PlaceLemmas.{same_all}

-- inside a list it doesn't matter what stands past its end
pub same_inside : {X : Type 0} (xs : List X) (i : ℕ) (a b : X) → i < length xs → slice_index_or xs i a ≡ slice_index_or xs i b
same_inside [] i a b few = absurd (omega (arith, few))
same_inside (x ∷ xs) zero a b few = refl
same_inside (x ∷ xs) (suc i) a b few = same_inside xs i a b (omega (arith, few))

-- the window that stands at the link's place is the link's
pub held : (table : List Window) (p : ℕ) (w : Window) → w ≡ slice_index_or table p w → p < length table
    → w ≡ slice_index_or table p no_window
held table p w is few = is ∙ same_inside table p w no_window few

-- the window of the link is the new one
there : (table : List Window) (p q : ℕ) (w : Window) → p < length table → (q == p) ≡ true
    → slice_index_or (slice_set table p w) q no_window ≡ w
there table p q w few e = get_or-set_at table p q w no_window ((Decides-eqb q p).0 e) few

-- that of any other link is as before
elsewhere : (table : List Window) (p q : ℕ) (w : Window) → (q == p) ≡ false
    → slice_index_or (slice_set table p w) q no_window ≡ slice_index_or table q no_window
elsewhere table p q w e = get_or-set_other table p q w no_window (eqb-false q p e)

-- the number that comes next
pub next_changed : (table : List Window) (p : ℕ) (w : Window) (n : ℕ) → p < length table → w.next ≡ n → (q : ℕ)
    → next_of (slice_set table p w) q ≡ put (next_of table) p n q
unfolding next_of
next_changed table p w n few is q = by (q == p) refl
  where
    by : (b : Bool) → (q == p) ≡ b
        → (slice_index_or (slice_set table p w) q no_window).next ≡ cond b n (slice_index_or table q no_window).next
    by true e = ap (λ x. x.next) (there table p q w few e) ∙ is
    by false e = ap (λ x. x.next) (elsewhere table p q w e)

-- the number that comes next stays
pub next_kept : (table : List Window) (p : ℕ) (w : Window) → p < length table → w.next ≡ next_of table p → (q : ℕ)
    → next_of (slice_set table p w) q ≡ next_of table q
next_kept table p w few is q = next_changed table p w (next_of table p) few is q ∙ by (q == p) refl
  where
    by : (b : Bool) → (q == p) ≡ b → cond b (next_of table p) (next_of table q) ≡ next_of table q
    by true e = ap (λ i. next_of table i) (sym ((Decides-eqb q p).0 e))
    by false e = refl

-- the seats of one number change
pub seats_changed : (table : List Window) (p : ℕ) (w : Window) (k : ℕ) (v : List (Option (List ℤ))) → p < length table
    → ((l : ℕ) → seats_of w l ≡ put (seats_at table p) k v l) → (q l : ℕ)
    → seats_at (slice_set table p w) q l ≡ put_at (seats_at table) p k v q l
unfolding seats_at
seats_changed table p w k v few is q l = by (q == p) refl
  where
    by : (b : Bool) → (q == p) ≡ b
        → seats_of (slice_index_or (slice_set table p w) q no_window) l
        ≡ cond b (put (seats_at table p) k v) (seats_at table q) l
    by true e = ap (λ x. seats_of x l) (there table p q w few e) ∙ is l
    by false e = ap (λ x. seats_of x l) (elsewhere table p q w e)

-- the seats of all numbers stay
pub seats_kept : (table : List Window) (p : ℕ) (w : Window) → p < length table
    → ((l : ℕ) → seats_of w l ≡ seats_at table p l) → (q l : ℕ) → seats_at (slice_set table p w) q l ≡ seats_at table q l
unfolding seats_at
seats_kept table p w few is q l = by (q == p) refl
  where
    by : (b : Bool) → (q == p) ≡ b → seats_of (slice_index_or (slice_set table p w) q no_window) l ≡ seats_at table q l
    by true e =
        ap (λ x. seats_of x l) (there table p q w few e) ∙ is l ∙ ap (λ i. seats_at table i l) (sym ((Decides-eqb q p).0 e))
    by false e = ap (λ x. seats_of x l) (elsewhere table p q w e)

-- the seats of all numbers of one link change
pub seats_restarted : (table : List Window) (p : ℕ) (w : Window) → p < length table
    → ((l : ℕ) → seats_of w l ≡ no_seats) → (q l : ℕ)
    → seats_at (slice_set table p w) q l ≡ put (seats_at table) p (λ _. no_seats) q l
unfolding seats_at
seats_restarted table p w few is q l = by (q == p) refl
  where
    by : (b : Bool) → (q == p) ≡ b
        → seats_of (slice_index_or (slice_set table p w) q no_window) l ≡ cond b (λ _. no_seats) (seats_at table q) l
    by true e = ap (λ x. seats_of x l) (there table p q w few e) ∙ is l
    by false e = ap (λ x. seats_of x l) (elsewhere table p q w e)

-- nothing is kept in an empty window
pub empty_window : (next k : ℕ) → seats_of (record { next = next; kept = [] }) k ≡ no_seats
unfolding seats_of
empty_window next k = by (is_in_window next k)
  where
    by : (b : Bool) → cond b (no_seats {A = List ℤ}) no_seats ≡ no_seats
    by true = refl
    by false = refl

-- at first number 0 comes next
pub first_next : (n p : ℕ) → next_of (replicate n no_window) p ≡ 0
unfolding next_of
first_next n p = ap (λ x. x.next) (same_all n p no_window)

-- at first nothing is kept
pub first_seats : (n p k : ℕ) → seats_at (replicate n no_window) p k ≡ no_seats
unfolding seats_at seats_of
first_seats n p k = ap (λ x. seats_of x k) (same_all n p no_window) ∙ by (is_in_window 0 k)
  where
    by : (b : Bool) → cond b (no_seats {A = List ℤ}) no_seats ≡ no_seats
    by true = refl
    by false = refl

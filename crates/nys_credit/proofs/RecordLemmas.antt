-- Heads that are recorded, one after another.
use Rattle.std.proofs.Common.{◌≡◌, ℕ, ◌<◌, ◌≤◌, Bool, true, false, cond, ◌==◌, List, length, map, refl, sym, ap, ◌∙◌, arith, lt-ltb}
use Rattle.std.specs.Prelude.{Option, Some, None, is_some, nat_lt, slice_set}
use Rattle.std.specs.List.{range_with_len}
use Rattle.std.specs.Option.{option_or}
use Rattle.std.proofs.lemmas.Bool.{eqb-false}
use Rattle.std.proofs.lemmas.Bool.Decides.{Decides-eqb}
use Rattle.std.proofs.lemmas.Grind.{get_or-set_at}
use Rattle.std.proofs.lemmas.List.{ext_get_or, get_or-set_other, length-set}
use Rattle.std.proofs.lemmas.List.FromFn.{get_or-map-range_with_len, length-map-range_with_len}
use Rattle.nys_votes.specs.Seats.{seat_of, with_seat}

-- the seat of one maker is filled where it is empty
pub seat_put : {A : Type 0} (p : ℕ) (x : A) (seats : List (Option A)) → p < length seats → (q : ℕ)
    → seat_of (with_seat p x seats) q ≡ cond (q == p) (option_or (seat_of seats p) (Some x)) (seat_of seats q)
unfolding with_seat
seat_put {A} p x seats few q = by (seat_of seats p) refl (q == p) refl
  where
    by : (o : Option A) → seat_of seats p ≡ o → (b : Bool) → (q == p) ≡ b
        → seat_of (cond (is_some (seat_of seats p)) seats (slice_set seats p (Some x))) q ≡ cond b (option_or (seat_of seats p) (Some x)) (seat_of seats q)
    by (Some y) o true e = rw o (ap (λ i. seat_of seats i) ((Decides-eqb q p).0 e) ∙ o)
    by (Some y) o false e = rw o refl
    by None o true e = rw o (get_or-set_at seats p q (Some x) None ((Decides-eqb q p).0 e) few)
    by None o false e = rw o (get_or-set_other seats p q (Some x) None (eqb-false q p e))

-- as many seats as before
pub seat_length : {A : Type 0} (p : ℕ) (x : A) (seats : List (Option A)) → length (with_seat p x seats) ≡ length seats
unfolding with_seat
seat_length {A} p x seats = by (is_some (seat_of seats p))
  where
    by : (b : Bool) → length (cond b seats (slice_set seats p (Some x))) ≡ length seats
    by true = refl
    by false = length-set seats p (Some x)

-- once all seats are filled, they are a list of what fills them
pub all_filled : {A : Type 0} (f g : ℕ → Option A) (seats : List (Option A)) (n m : ℕ) → length seats ≡ n → n ≤ m
    → ((q : ℕ) → seat_of seats q ≡ cond (nat_lt q m) (f q) (g q)) → seats ≡ map f (range_with_len 0 n)
all_filled f g seats n m size most each = ext_get_or None seats (map f (range_with_len 0 n)) (size ∙ sym (length-map-range_with_len f 0 n)) (λ i within.
    each i ∙ ap (λ b. cond b (f i) (g i)) (lt-ltb i m (omega (arith, within, size, most)))
    ∙ sym (get_or-map-range_with_len f 0 n i i None (omega (arith, within, size)) (omega arith)))

-- How the count of taken seats changes where one is taken or emptied.
use Rattle.std.proofs.Common.{◌≡◌, ℕ, ◌+◌, ◌<◌, ◌≤◌, List, length, refl, arith}
use Rattle.std.specs.Prelude.{Option, Some, None, is_some, slice_index_or, slice_set, cond, true}
use Rattle.std.proofs.lemmas.List.Sums.{sum_by-set, count_by-le-length}
use Rattle.nys_votes.specs.Seats.{count_all, count_seats, passes}

-- what a seat adds to the count
abbrev bit : {A : Type 0} → Option A → ℕ
bit seat = cond (passes (λ _. true) seat) 1 0

-- one more where an empty seat is taken
pub one_more : {A : Type 0} (held : List (Option A)) (m : ℕ) (x : A) → m < length held
    → slice_index_or held m None ≡ None → count_all (slice_set held m (Some x)) ≡ count_all held + 1
unfolding count_seats
one_more held m x within empty =
    let moved = sum_by-set bit held m (Some x) None within in
    grind (moved, empty, arith)

-- one fewer where a taken seat is emptied
pub one_fewer : {A : Type 0} (held : List (Option A)) (m : ℕ) (d : Option A) → m < length held
    → is_some (slice_index_or held m d) ≡ true → count_all (slice_set held m None) + 1 ≡ count_all held
unfolding count_seats
one_fewer held m d within there =
    let moved = sum_by-set bit held m None d within in
    omega (arith, moved, counts (slice_index_or held m d) there)
  where
    counts : {A : Type 0} (seat : Option A) → is_some seat ≡ true → bit seat ≡ 1
    counts None e = grind (arith, e)
    counts (Some x) e = refl

-- no more than there are
pub not_more : {A : Type 0} (held : List (Option A)) → count_all held ≤ length held
unfolding count_seats
not_more held = count_by-le-length (passes (λ _. true)) held

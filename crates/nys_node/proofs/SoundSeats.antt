-- What stands in the seats of a desk, as the makers of a record.
use Rattle.std.proofs.Common.{◌≡◌, ℕ, zero, suc, ◌+◌, ◌≤◌, Bool, true, false, cond, List, [], ◌∷◌, length, map, count_by, All, refl, ap, sym, subst, ◌∙◌, arith, zero-add}
use Rattle.std.specs.Prelude.{Option, Some, None, if◌then◌else◌, nat_le, replicate, slice_index_or, slice_set}
use Rattle.std.specs.List.{find}
use Rattle.std.specs.Option.{option_flatten}
use Rattle.std.proofs.lemmas.List.Elements.{All-cons, All-nil}
use Rattle.std.proofs.lemmas.List.Sums.{sum_by-cons}
use Rattle.nys_bytes.specs.declared.content.Content.{Content}
use Rattle.nys_stmt.specs.declared.tags.Tags.{Tags}
use Rattle.nys_votes.specs.Contents.{same_content}
use Rattle.nys_votes.specs.Delivered.{tags_for, voted_by, voters, votes_for}
use Rattle.nys_votes.specs.Ordered.{makers_from, makers_of}
use Rattle.nys_votes.specs.Seats.{count_all, count_seats, is_seated, lowest, no_seats, passes, seat_of, with_seat}
use Rattle.nys_votes.specs.declared.vote.Vote.{Vote}
use Rattle.nys_votes.proofs.ContentLemmas.{decide_contents}
use Rattle.nys_rules.proofs.SearchLemmas.{map_some}

-- what is found stands in a seat
pub lowest_seated : {A : Type 0} (test : A → Bool) (seats : List (Option A)) (x : A) → lowest test seats ≡ Some x
    → (m : ℕ) × (seat_of seats m ≡ Some x)
unfolding lowest
lowest_seated test [] x e = absurd (cc)
lowest_seated test (None ∷ seats) x e = let rest = lowest_seated test seats x e in (suc rest.0, rest.1)
lowest_seated {A} test (Some y ∷ seats) x e = by (test y) e (λ found. lowest_seated test seats x found)
  where
    by : (b : Bool) → option_flatten (cond b (Some (Some y)) (find (passes test) seats)) ≡ Some x
        → (option_flatten (find (passes test) seats) ≡ Some x → (m : ℕ) × (seat_of seats m ≡ Some x))
        → (m : ℕ) × (seat_of (Some y ∷ seats) m ≡ Some x)
    by true found rest = (zero, found)
    by false found rest = let there = rest found in (suc there.0, there.1)

-- a content that was voted for stands in a vote
pub voted_seated : (n : ℕ) (votes : List (Option Vote)) (content : Content) → voted_by n votes ≡ Some content
    → (m : ℕ) × (vote : Vote) × (seat_of votes m ≡ Some vote) × (vote.content ≡ content)
unfolding voted_by
voted_seated n votes content e =
    let found = map_some (λ (v : Vote). v.content) (lowest (λ v. nat_le n (votes_for v.content votes)) votes) content e in
    let seat = lowest_seated (λ v. nat_le n (votes_for v.content votes)) votes found.0 found.1 in
    (seat.0, found.0, seat.1, found.2)

-- one maker counts one, an empty seat none
count_none : {A : Type 0} (seats : List (Option A)) → count_all (None ∷ seats) ≡ count_all seats
unfolding count_seats
count_none {A} seats =
    sum_by-cons (λ (y : Option A). cond (passes (λ _. true) y) 1 0) None seats
    ∙ zero-add (count_by (passes (λ _. true)) seats)

count_one : {A : Type 0} (x : A) (seats : List (Option A)) → count_all (Some x ∷ seats) ≡ 1 + count_all seats
unfolding count_seats
count_one {A} x seats = sum_by-cons (λ (y : Option A). cond (passes (λ _. true) y) 1 0) (Some x) seats

-- nobody's seats count none
count_nobody : (A : Type 0) → count_all {A = A} [] ≡ 0
unfolding count_seats
count_nobody A = refl

-- a record has as many makers as are kept
makers_count : (n : ℕ) (seats : List (Option (List (ℕ × List ℕ)))) → length (makers_from n seats) ≡ count_all seats
makers_count n [] = sym (count_nobody (List (ℕ × List ℕ)))
makers_count n (None ∷ seats) = makers_count (n + 1) seats ∙ sym (count_none seats)
makers_count n (Some tags ∷ seats) = omega (arith, makers_count (n + 1) seats, count_one tags seats)

-- the same from the first seat on
pub makers_are : (seats : List (Option (List (ℕ × List ℕ)))) → length (makers_of seats) ≡ count_all seats
unfolding makers_of
makers_are seats = makers_count 0 seats

-- what holds of the tags in all seats holds of the makers' tags
makers_tags : (P : List (ℕ × List ℕ) → Type 0) (n : ℕ) (seats : List (Option (List (ℕ × List ℕ))))
    → ((m : ℕ) (tags : List (ℕ × List ℕ)) → seat_of seats m ≡ Some tags → P tags)
    → All (λ (t : Tags). P t.tags) (makers_from n seats)
makers_tags P n [] each = All-nil (λ (t : Tags). P t.tags)
makers_tags P n (None ∷ seats) each = makers_tags P (n + 1) seats (λ m tags e. each (suc m) tags e)
makers_tags P n (Some tags ∷ seats) each =
    All-cons (λ (t : Tags). P t.tags) (record { maker = n; tags = tags }) (makers_from (n + 1) seats) (each 0 tags refl)
    (makers_tags P (n + 1) seats (λ m other e. each (suc m) other e))

-- the same from the first seat on
pub makers_tagged : (P : List (ℕ × List ℕ) → Type 0) (seats : List (Option (List (ℕ × List ℕ))))
    → ((m : ℕ) (tags : List (ℕ × List ℕ)) → seat_of seats m ≡ Some tags → P tags)
    → All (λ (t : Tags). P t.tags) (makers_of seats)
unfolding makers_of
makers_tagged P seats each = makers_tags P 0 seats each

-- a seat that is taken counts
pub seat_counts : {A : Type 0} (seats : List (Option A)) (m : ℕ) (x : A) → seat_of seats m ≡ Some x → 1 ≤ count_all seats
seat_counts [] m x e = absurd (cc)
seat_counts (None ∷ seats) zero x e = absurd (cc)
seat_counts (None ∷ seats) (suc m) x e = omega (arith, seat_counts seats m x e, count_none seats)
seat_counts (Some y ∷ seats) m x e = omega (arith, count_one y seats)

-- empty places have nothing
none_there : {A : Type 0} (n m : ℕ) (x : A) → slice_index_or (replicate n None) m None ≡ Some x → ⊥
none_there zero m x e = cc
none_there (suc n) zero x e = cc
none_there (suc n) (suc m) x e = none_there n m x e

-- nothing stands in nobody's seats
pub no_seat : {A : Type 0} (m : ℕ) (x : A) → seat_of no_seats m ≡ Some x → ⊥
no_seat m x e = none_there 32 m x e

-- nobody's seats count none
none_count : (A : Type 0) (n : ℕ) → count_all {A = A} (replicate n None) ≡ 0
none_count A zero = count_nobody A
none_count A (suc n) = count_none (replicate n None) ∙ none_count A n

-- the same of 32
pub count_no_seats : (A : Type 0) → count_all (no_seats {A = A}) ≡ 0
count_no_seats A = none_count A 32

-- the tags of votes for a content are those of votes
pub voter_seat : (content : Content) (votes : List (Option Vote)) (m : ℕ) (tags : List (ℕ × List ℕ))
    → seat_of (map (tags_for content) votes) m ≡ Some tags
    → (vote : Vote) × (seat_of votes m ≡ Some vote) × (vote.tags ≡ tags)
voter_seat content [] m tags e = absurd (cc)
voter_seat content (None ∷ votes) zero tags e = absurd (cc)
voter_seat content (None ∷ votes) (suc m) tags e = voter_seat content votes m tags e
voter_seat content (Some v ∷ votes) zero tags e = by (same_content content v.content) e
  where
    by : (b : Bool) → (if b then Some v.tags else None) ≡ Some tags
        → (vote : Vote) × (Some v ≡ Some vote) × (vote.tags ≡ tags)
    by true is = (v, refl, let same : v.tags ≡ tags = cc in same)
    by false is = absurd (cc)
voter_seat content (Some v ∷ votes) (suc m) tags e = voter_seat content votes m tags e

-- a vote for a content has its tags there
pub seat_voter : (content : Content) (votes : List (Option Vote)) (m : ℕ) (vote : Vote) → seat_of votes m ≡ Some vote
    → vote.content ≡ content → seat_of (map (tags_for content) votes) m ≡ Some vote.tags
seat_voter content [] m vote e is = absurd (cc)
seat_voter content (None ∷ votes) zero vote e is = absurd (cc)
seat_voter content (None ∷ votes) (suc m) vote e is = seat_voter content votes m vote e is
seat_voter content (Some v ∷ votes) zero vote e is =
    let same : v ≡ vote = cc in
    let passed = (decide_contents content v.content).1 (sym (ap (λ (w : Vote). w.content) same ∙ is)) in
    ap (λ b. if b then Some v.tags else None) passed ∙ ap (λ (w : Vote). Some w.tags) same
seat_voter content (Some v ∷ votes) (suc m) vote e is = seat_voter content votes m vote e is

-- where a content was voted for it has a voter
pub some_voter : (n : ℕ) (votes : List (Option Vote)) (content : Content) → voted_by n votes ≡ Some content
    → 1 ≤ length (voters content votes)
unfolding voters
some_voter n votes content e =
    let seat = voted_seated n votes content e in
    let tags = seat_voter content votes seat.0 seat.1 seat.2 seat.3 in
    omega (arith, makers_are (map (tags_for content) votes), seat_counts (map (tags_for content) votes) seat.0 seat.1.tags tags)

-- voters have the tags of their votes
pub voters_tagged : (P : List (ℕ × List ℕ) → Type 0) (content : Content) (votes : List (Option Vote))
    → ((m : ℕ) (vote : Vote) → seat_of votes m ≡ Some vote → P vote.tags)
    → All (λ (t : Tags). P t.tags) (voters content votes)
unfolding voters
voters_tagged P content votes each =
    makers_tagged P (map (tags_for content) votes) (λ m tags e.
    let seat = voter_seat content votes m tags e in
    subst P seat.2 (each m seat.0 seat.1))

-- a seat that is taken takes none away
pub count_with_seat : {A : Type 0} (m : ℕ) (x : A) (seats : List (Option A)) → count_all seats ≤ count_all (with_seat m x seats)
unfolding with_seat
count_with_seat {A} m x seats = by (is_seated seats m) refl
  where
    set_more : (seats : List (Option A)) (m : ℕ) → is_seated seats m ≡ false → count_all seats ≤ count_all (slice_set seats m (Some x))
    set_more [] m e = omega arith
    set_more (None ∷ seats) zero e = omega (arith, count_none seats, count_one x seats)
    set_more (Some y ∷ seats) zero e = absurd (cc)
    set_more (None ∷ seats) (suc m) e =
        omega (arith, set_more seats m e, count_none seats, count_none (slice_set seats m (Some x)))
    set_more (Some y ∷ seats) (suc m) e =
        omega (arith, set_more seats m e, count_one y seats, count_one y (slice_set seats m (Some x)))

    by : (b : Bool) → is_seated seats m ≡ b → count_all seats ≤ count_all (if b then seats else slice_set seats m (Some x))
    by true e = omega arith
    by false e = set_more seats m e

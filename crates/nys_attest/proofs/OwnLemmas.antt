-- A node's own payload beside what is heard.
use Rattle.std.proofs.Common.{rules, ◌≡◌, ℕ, ◌<◌, ℤ, Bool, true, false, cond, List, length, refl, sym, ap, ◌∙◌}
use Rattle.std.specs.Prelude.{Option, Some, None, is_some, slice_set}
use Rattle.std.proofs.lemmas.Grind.{get_or-set_at}
use Rattle.std.proofs.lemmas.List.{get_or-set_other}
use Rattle.nys_rules.specs.Heads.{with_own}
use Rattle.nys_votes.specs.Seats.{is_seated, seat_of, with_seat}

-- as many seats as before
pub own_length : (me : ℕ) (own : Option (List ℤ)) (seats : List (Option (List ℤ))) → length (with_own me own seats) ≡ length seats
unfolding with_seat
own_length me None seats = refl
own_length me (Some payload) seats = by (is_seated seats me)
  where
    by : (b : Bool) → length (cond b seats (slice_set seats me (Some payload))) ≡ length seats
    by true = refl
    by false = search rules

-- what is heard of a maker stays
pub own_kept : (me : ℕ) (own : Option (List ℤ)) (seats : List (Option (List ℤ))) (m : ℕ) (x : List ℤ)
    → seat_of seats m ≡ Some x → Some x ≡ seat_of (with_own me own seats) m
unfolding with_seat
own_kept me None seats m x e = sym e
own_kept me (Some payload) seats m x e = by (is_seated seats me) refl
  where
    apart : is_seated seats me ≡ false → m ≡ me → ⊥
    apart empty same =
        let there : is_some (seat_of seats me) ≡ true = ap (λ i. is_some (seat_of seats i)) (sym same) ∙ ap (λ o. is_some o) e in
        let contrary : true ≡ false = sym there ∙ empty in
        absurd (cc)

    by : (b : Bool) → is_seated seats me ≡ b → Some x ≡ seat_of (cond b seats (slice_set seats me (Some payload))) m
    by true taken = sym e
    by false empty = sym (get_or-set_other seats me m (Some payload) None (apart empty) ∙ e)

-- where nothing is heard of the node, its own payload counts
pub own_counts : (me : ℕ) (own : Option (List ℤ)) (seats : List (Option (List ℤ))) (m : ℕ)
    → None ≡ seat_of seats m → m ≡ me → m < length seats → own ≡ seat_of (with_own me own seats) m
unfolding with_seat
own_counts me None seats m e same few = e
own_counts me (Some payload) seats m e same few = by (is_seated seats me) refl
  where
    by : (b : Bool) → is_seated seats me ≡ b → Some payload ≡ seat_of (cond b seats (slice_set seats me (Some payload))) m
    by true taken =
        let none : is_some (seat_of seats me) ≡ false = ap (λ i. is_some (seat_of seats i)) (sym same) ∙ ap (λ o. is_some o) (sym e) in
        let contrary : true ≡ false = sym taken ∙ none in
        absurd (cc)
    by false empty =
        sym (get_or-set_at seats me m (Some payload) None same (subst_below same few))
      where
        subst_below : m ≡ me → m < length seats → me < length seats
        subst_below is below = rw (← is) below

-- of other makers nothing comes to it
pub own_other : (me : ℕ) (own : Option (List ℤ)) (seats : List (Option (List ℤ))) (m : ℕ)
    → None ≡ seat_of seats m → (m ≡ me → ⊥) → None ≡ seat_of (with_own me own seats) m
unfolding with_seat
own_other me None seats m e differ = e
own_other me (Some payload) seats m e differ = by (is_seated seats me)
  where
    by : (b : Bool) → None ≡ seat_of (cond b seats (slice_set seats me (Some payload))) m
    by true = e
    by false = e ∙ sym (get_or-set_other seats me m (Some payload) None differ)

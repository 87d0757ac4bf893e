-- Where the first seat that passes stands.
use Rattle.std.proofs.Common.{◌≡◌, ℕ, zero, suc, ◌+◌, ◌<◌, ◌≤◌, Bool, true, false, cond, List, [], ◌∷◌, length, drop, refl, sym, ap, ◌∙◌, arith}
use Rattle.std.specs.Prelude.{Option, Some, None}
use Rattle.std.specs.List.{position, position_from}
use Rattle.std.proofs.lemmas.Iterator.Adapters.{position_from-zero}
use Rattle.nys_votes.specs.Seats.{seat_of}

-- from a seat that passes on, it is the first
pub starts : {A : Type 0} (test : Option A → Bool) (n i : ℕ) (seats : List (Option A)) → i < length seats → test (seat_of seats i) ≡ true
    → position_from test n (drop i seats) ≡ Some n
starts test n i [] few e = absurd (omega (arith, few))
starts test n zero (x ∷ seats) few e = ap (λ b. cond b (Some n) (position_from test (n + 1) seats)) e
starts test n (suc i) (x ∷ seats) few e = starts test n i seats (omega (arith, few)) e

-- behind the last seat none passes
pub ends : {A : Type 0} (test : Option A → Bool) (n i : ℕ) (seats : List (Option A)) → length seats ≤ i
    → position_from test n (drop i seats) ≡ None
ends test n zero [] all = refl
ends test n (suc i) [] all = refl
ends test n zero (x ∷ seats) all = absurd (omega (arith, all))
ends test n (suc i) (x ∷ seats) all = ends test n i seats (omega (arith, all))

-- what the rest finds first, where that is what all seats find
pub is_first : {A : Type 0} (test : Option A → Bool) (p : ℕ) (seats : List (Option A))
    → position_from test p (drop p seats) ≡ position_from test 0 seats → p < length seats → test (seat_of seats p) ≡ true
    → Some p ≡ position test seats
is_first test p seats rest few e = sym (starts test p p seats few e) ∙ rest ∙ sym (position_from-zero test seats)

-- where nothing is left, no seat passes
pub is_none : {A : Type 0} (test : Option A → Bool) (p : ℕ) (seats : List (Option A))
    → position_from test p (drop p seats) ≡ position_from test 0 seats → length seats ≤ p → None ≡ position test seats
is_none test p seats rest all = sym (ends test p p seats all) ∙ rest ∙ sym (position_from-zero test seats)

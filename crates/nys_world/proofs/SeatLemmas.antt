-- The seats of parties, as makers take them, and the record that they make.
use Rattle.std.proofs.Common.{◌≡◌, ℕ, zero, suc, ◌≤◌, true, List, [], ◌∷◌, length, Some, None, refl, subst, ◌∙◌, inl, inr, arith}
use Rattle.std.specs.Prelude.{All, Contains, Option, is_some, replicate}
use Rattle.std.proofs.lemmas.List.{length-replicate}
use Rattle.std.proofs.lemmas.List.Elements.{All-weaker}
use Rattle.nys_stmt.specs.Ranges.{IsInRange}
use Rattle.nys_stmt.specs.Records.{IsMaker, IsRecord, IsWhole}
use Rattle.nys_stmt.specs.declared.records.Record.{Record}
use Rattle.nys_stmt.specs.declared.statement.Statement.{Statement}
use Rattle.nys_stmt.specs.declared.tags.Tags.{Tags}
use Rattle.nys_votes.specs.Ordered.{makers_of}
use Rattle.nys_votes.specs.Seats.{seat_of, with_seat}
use Rattle.nys_rules.proofs.SeatCases.{seats_after, seats_case, seats_keep, seats_take}
use Rattle.nys_rules.proofs.SeatKeeping.{length-with_seat}
use Rattle.nys_node.proofs.SoundSeats.{makers_are, makers_tagged, seat_counts}
use Rattle.nys_world.specs.Bundles.{AreSeated}

-- the tags that are kept of makers
abbrev pub Kept : Type 0
Kept = List (Option (List (ℕ × List ℕ)))

-- the seats once the makers of a record took theirs
abbrev pub with_makers : List Tags → Kept → Kept
with_makers makers seats = seats_after (λ (m : Tags). m.maker) (λ m. m.tags) makers seats

-- makers that take their seats leave as many
length-with_makers : (makers : List Tags) (seats : Kept) → length (with_makers makers seats) ≡ length seats
length-with_makers [] seats = refl
length-with_makers (m ∷ makers) seats = length-with_makers makers (with_seat m.maker m.tags seats) ∙ length-with_seat m.maker m.tags seats

-- each maker has tags
abbrev pub AreTagged : List Tags → Type 0
AreTagged makers = All (λ (t : Tags). 1 ≤ length t.tags) makers

-- what holds of all holds of one of them
all_of : {A : Type 0} (P : A → Type 0) (xs : List A) (x : A) → All P xs → Contains xs x → P x
all_of P xs x all among = subst P among.2 (all among.0 x among.1)

-- makers that have tags, among makers that have tags
tagged_after : (makers : List Tags) (seats : Kept) → AreTagged makers
    → ((m : ℕ) (tags : List (ℕ × List ℕ)) → seat_of seats m ≡ Some tags → 1 ≤ length tags)
    → (m : ℕ) (tags : List (ℕ × List ℕ)) → seat_of (with_makers makers seats) m ≡ Some tags → 1 ≤ length tags
tagged_after makers seats tagged before m tags e =
    elim (seats_case (λ (t : Tags). t.maker) (λ t. t.tags) makers seats m tags e) [
      | inl old ↦ before m tags old
      | inr new ↦ subst (λ (ts : List (ℕ × List ℕ)). 1 ≤ length ts) new.3 (all_of (λ (t : Tags). 1 ≤ length t.tags) makers new.0 tagged new.1)
    ]

-- seats stay so when makers that have tags take theirs
pub seated_after : (makers : List Tags) (seats : Kept) → AreTagged makers → AreSeated seats → AreSeated (with_makers makers seats)
seated_after makers seats tagged are = record {
  rows = length-with_makers makers seats ∙ are.rows;
  some = (are.some.0, are.some.1, seats_keep (λ (t : Tags). t.maker) (λ t. t.tags) makers seats are.some.0 are.some.1 are.some.2);
  each = tagged_after makers seats tagged are.each;
}

-- empty seats have nothing
none_there : (n m : ℕ) (tags : List (ℕ × List ℕ)) → seat_of (replicate n None) m ≡ Some tags → ⊥
none_there zero m tags e = cc
none_there (suc n) zero tags e = cc
none_there (suc n) (suc m) tags e = none_there n m tags e

-- what is there is something
is_something : {A : Type 0} (o : Option A) → is_some o ≡ true → (x : A) × (o ≡ Some x)
is_something None e = absurd (cc)
is_something (Some x) e = (x, refl)

-- each maker of a record has tags
pub record_tagged : (r : Record) → IsRecord r → AreTagged r.makers
record_tagged r well = All-weaker IsMaker (λ (t : Tags). 1 ≤ length t.tags) (λ t is. is.some) r.makers well.each

-- one of the makers has its seat
one_seated : (makers : List Tags) (seats : Kept) → 1 ≤ length makers → All (λ (t : Tags). t.maker ≤ 32) makers → length seats ≡ 33
    → (m : ℕ) × (tags : List (ℕ × List ℕ)) × (seat_of (with_makers makers seats) m ≡ Some tags)
one_seated [] seats some parties rows = absurd (omega (arith, some))
one_seated (m ∷ makers) seats some parties rows =
    let low : m.maker ≤ 32 = parties 0 m (omega arith) in
    let taken = seats_take (λ (t : Tags). t.maker) (λ t. t.tags) (m ∷ makers) seats m (0, omega arith, refl) (omega (arith, low, rows)) in
    let held = is_something (seat_of (with_makers (m ∷ makers) seats) m.maker) taken in
    (m.maker, held.0, held.1)

-- the makers of a record take empty seats
pub seated_first : (r : Record) → IsRecord r → AreSeated (with_makers r.makers (replicate 33 None))
seated_first r well =
    let none : Option (List (ℕ × List ℕ)) = None in
    let rows = length-replicate 33 none in record {
      rows = length-with_makers r.makers (replicate 33 None) ∙ rows;
      some = one_seated r.makers (replicate 33 None) well.some well.rule.parties rows;
      each = tagged_after r.makers (replicate 33 None) (record_tagged r well) (λ m tags e. absurd (none_there 33 m tags e));
    }

-- the record of the makers that have seats is whole
pub seated_whole : (statement : Statement) (seats : Kept) → IsInRange statement → AreSeated seats
    → IsWhole (record { statement = statement; makers = makers_of seats })
seated_whole statement seats range are = record {
  range = range;
  makers = omega (arith, makers_are seats, seat_counts seats are.some.0 are.some.1 are.some.2);
  tags = makers_tagged (λ tags. 1 ≤ length tags) seats are.each;
}

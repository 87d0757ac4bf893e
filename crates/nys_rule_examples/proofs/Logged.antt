-- An input that four exchanges log, and one that none does, computed.
use Rattle.std.proofs.Common.{◌≡◌, ◌≢◌, ℕ, zero, suc, ◌<◌, ◌==◌, ◌&&◌, ◌||◌, Bool, true, List, [], ◌∷◌, Some, refl, ap, sym, subst, ◌∙◌, inl, inr, arith, ltb-true, eqb-true}
use Rattle.std.specs.Prelude.{All, Contains, nat_lt, Ok, Err, Option, replicate, Result, slice_get}
use Rattle.std.proofs.lemmas.Bool.{ne_eqb}
use Rattle.std.proofs.lemmas.List.Elements.{All-cons, All-nil}
use Rattle.nys_stmt.specs.declared.records.Record.{Record}
use Rattle.nys_stmt.specs.declared.statement.Body.TheVariants as body
use Rattle.nys_stmt.specs.declared.statement.FilledKind.TheVariants as kind
use Rattle.nys_stmt.specs.declared.statement.Statement.{Statement}
use Rattle.nys_stmt.specs.declared.tags.Tags.{Tags}
use Rattle.nys_wire.proofs.Wholes.{whole_takes}
use Rattle.nys_wire.specs.Reading.{whole_record}
use Rattle.nys_wire.specs.declared.fault.WireFault.{WireFault}
use Rattle.nys_rules.specs.declared.notice.Note.{Note}
use Rattle.nys_rules.specs.declared.notice.NoteKind.TheVariants as tell
use Rattle.nys_rules.specs.Dropping.{verifies}
use Rattle.nys_rules.specs.Events.Plain.{Exchange, Input}
use Rattle.nys_rules.specs.Exchanges.{IsHonestGuard}
use Rattle.nys_rules.specs.Forged.{Entry}
use Rattle.nys_rules.specs.Happening.{HappenAll}
use Rattle.nys_rules.specs.Heads.{is_allowed}
use Rattle.nys_rules.specs.Packets.{Given, Sent}
use Rattle.nys_rules.specs.Sending.{said_in}
use Rattle.nys_rules.specs.View.{is_open, length_of}
use Rattle.nys_rules.specs.World.{fresh_world, is_honest, World}
use Rattle.nys_rules.proofs.CertificateLemmas.{both_true}
use Rattle.nys_progress.specs.FourExchanges.{AreThere, HasWholeOrders, IsWholeEntry}
use Rattle.nys_progress.specs.Ordered.{IsOffered}
use Rattle.nys_progress.proofs.CollectedSteps.{placed_in}
use Rattle.nys_progress.proofs.MakerLists.{bytes_at}
use Rattle.nys_rule_examples.specs.Logged.{CanLog, spoiled}
use Rattle.nys_rule_examples.specs.Relayed.{one_lies}
use Rattle.nys_rule_examples.specs.Scenario.{input, just}
use Rattle.nys_rule_examples.proofs.Reaching.{Computes, seen, world_in}
use Rattle.nys_rule_examples.proofs.Relayed.{are_good, have_tags, is_carried, is_scenario}
use Rattle.nys_rule_examples.proofs.Replays.{Outcome, replay, replay_is}
use Rattle.nys_rule_examples.proofs.Words.{words}

-- orders with tags for the host alone
pub computes_spoiled : Computes spoiled
unfolding words
computes_spoiled = refl

-- ---- whole entries, computed

-- each of them is a byte
abbrev are_bytes : List ℕ → Bool
are_bytes [] = true
are_bytes (b ∷ bytes) = nat_lt b 256 && are_bytes bytes

-- so they are below 256
bytes_low : (bytes : List ℕ) → are_bytes bytes ≡ true → All (λ b. b < 256) bytes
bytes_low [] is = All-nil (λ b. b < 256)
bytes_low (b ∷ bytes) is =
    let parts = both_true (nat_lt b 256) (are_bytes bytes) is in
    All-cons (λ x. x < 256) b bytes (ltb-true b 256 parts.0) (bytes_low bytes parts.1)

-- guard g made the entry, or finds its tag there
abbrev finds : Statement → Tags → ℕ → Bool
finds s t g = (g == t.maker) || verifies one_lies.scope g s t

-- all four guards do
abbrev is_whole : Statement → Tags → Bool
is_whole s t = finds s t 0 && (finds s t 1 && (finds s t 2 && finds s t 3))

-- another guard finds its tag then
other_finds : (s : Statement) (t : Tags) (g : ℕ) → finds s t g ≡ true → g ≢ t.maker → verifies one_lies.scope g s t ≡ true
other_finds s t g is ne = sym (ap (λ b. b || verifies one_lies.scope g s t) (ne_eqb g t.maker ne)) ∙ is

-- so the entry is whole
whole_entry : (s : Statement) (t : Tags) → is_whole s t ≡ true → IsWholeEntry one_lies 0 0 s t
whole_entry s t is honest g guards ne =
    let low = ltb-true g 4 guards in
    let zeroth = both_true (finds s t 0) (finds s t 1 && (finds s t 2 && finds s t 3)) is in
    let first = both_true (finds s t 1) (finds s t 2 && finds s t 3) zeroth.1 in
    let second = both_true (finds s t 2) (finds s t 3) first.1 in
    other_finds s t g (of_four g low zeroth.0 first.0 second.0 second.1) ne
  where
    of_four : (g : ℕ) → g < 4 → finds s t 0 ≡ true → finds s t 1 ≡ true → finds s t 2 ≡ true → finds s t 3 ≡ true
        → finds s t g ≡ true
    of_four zero low a b c d = a
    of_four (suc zero) low a b c d = b
    of_four (suc (suc zero)) low a b c d = c
    of_four (suc (suc (suc zero))) low a b c d = d
    of_four (suc (suc (suc (suc n)))) low a b c d = absurd (omega (arith, low))

-- all entries are
abbrev are_whole : Statement → List Tags → Bool
are_whole s [] = true
are_whole s (t ∷ makers) = is_whole s t && are_whole s makers

-- each one
whole_entries : (s : Statement) (makers : List Tags) → are_whole s makers ≡ true → All (IsWholeEntry one_lies 0 0 s) makers
whole_entries s [] is = All-nil (IsWholeEntry one_lies 0 0 s)
whole_entries s (t ∷ makers) is =
    let parts = both_true (is_whole s t) (are_whole s makers) is in
    All-cons (IsWholeEntry one_lies 0 0 s) t makers (whole_entry s t parts.0) (whole_entries s makers parts.1)

-- a record that is read has whole entries
abbrev is_read_whole : Result Record WireFault → Bool
is_read_whole (Ok r) = are_whole r.statement r.makers
is_read_whole (Err fault) = true

-- bytes that are a record with whole entries, if they are one
abbrev is_frame_whole : List ℕ → Bool
is_frame_whole frame = are_bytes frame && is_read_whole (whole_record frame)

-- all packets have such
abbrev are_frames_whole : List Sent → Bool
are_frames_whole [] = true
are_frames_whole (p ∷ packets) = is_frame_whole p.frame && are_frames_whole packets

-- each one
frame_whole : (packets : List Sent) → are_frames_whole packets ≡ true → (p : Sent) → Contains packets p
    → is_frame_whole p.frame ≡ true
frame_whole [] is p among = absurd (omega (arith, among.1))
frame_whole (q ∷ packets) is p (zero, lt, at) =
    ap (λ (x : Sent). is_frame_whole x.frame) (sym at) ∙ (both_true (is_frame_whole q.frame) (are_frames_whole packets) is).0
frame_whole (q ∷ packets) is p (suc n, lt, at) =
    frame_whole packets (both_true (is_frame_whole q.frame) (are_frames_whole packets) is).1 p (n, omega (arith, lt), at)

-- so the orders are whole where no bytes were given
orders_whole : (w : World) → are_frames_whole w.pool ≡ true → w.injected ≡ [] → HasWholeOrders one_lies w 0 0 0
orders_whole w all none = record {
  well = λ frame there is.
      let bytes = bytes_low frame (both_true (are_bytes frame) (is_read_whole (whole_record frame)) (sure frame there)).0 in
      (whole_takes frame is.r (bytes_at frame bytes) is.reads).0;
  whole = λ frame there is.
      whole_entries is.r.statement is.r.makers
      (ap is_read_whole (sym is.reads) ∙ (both_true (are_bytes frame) (is_read_whole (whole_record frame)) (sure frame there)).1);
}
  where
    sure : (frame : List ℕ) → AreThere w.pool w.injected frame → is_frame_whole frame ≡ true
    sure frame (inl sent) = ap is_frame_whole (sym sent.2) ∙ frame_whole w.pool all sent.0 sent.1
    sure frame (inr given) = absurd
        (let among = subst (λ (g : List Given). Contains g given.0) none given.1 in omega (arith, among.1))

-- ---- the worlds

-- what is looked at of a guard: the slot is open at it, and the input allowed
abbrev is_level : World → ℕ → Bool
is_level w g = ((w.nodes g).epoch == 0) && (is_open one_lies.scope (w.nodes g) 0
    && ((length_of (w.nodes g) 0 == 0) && is_allowed one_lies.scope (w.nodes g) 0 (input 5)))

-- and of the world: the honest guards, the first statement, and what notes tell
abbrev looked_at : World → Bool × (Option Entry × List Note)
looked_at w = (is_level w 0 && (is_level w 1 && is_level w 2), (slice_get w.ledger 0, w.notes))

-- host 0 has made its offer
abbrev offer_made : Entry
offer_made = record { party = 0; statement = said_in 0 (body.Filled kind.Offer 0 0 (input 5)) }

-- an input leads to a world that has it so
computes_offered : seen looked_at (replay one_lies (Input 0 (just 5) ∷ []) (fresh_world one_lies)) ≡ (true, Some (true, (Some offer_made, [])))
unfolding words
computes_offered = refl

-- that world
offered : ((replay one_lies (Input 0 (just 5) ∷ []) (fresh_world one_lies)).0 ≡ true)
    × ((w : World) × ((replay one_lies (Input 0 (just 5) ∷ []) (fresh_world one_lies)).1 ≡ Ok w) × (looked_at w ≡ (true, (Some offer_made, []))))
offered = world_in looked_at (replay one_lies (Input 0 (just 5) ∷ []) (fresh_world one_lies)) (true, (Some offer_made, [])) computes_offered

-- the world of an outcome, where it goes on
abbrev world_of : Outcome → World
world_of (sure, Ok w) = w
world_of (sure, Err end) = fresh_world one_lies

-- it is the one that goes on
goes_there : (x : Outcome) (w : World) → x.1 ≡ Ok w → world_of x ≡ w
goes_there (sure, Ok v) w is = cc
goes_there (sure, Err end) w is = absurd (cc)

-- the world after the input
abbrev after_input : World
after_input = world_of (replay one_lies (Input 0 (just 5) ∷ []) (fresh_world one_lies))

-- what is looked at after four exchanges: packets, and bytes that events gave
abbrev looked_later : World → Bool × List Given
looked_later w = (are_frames_whole w.pool, w.injected)

-- all frames are whole, and there were no bytes
computes_later : seen looked_later (replay one_lies (replicate 4 Exchange) after_input) ≡ (true, Some (true, []))
unfolding words
computes_later = refl

-- a guard of which this is seen
record IsSeen (w : World) (g : ℕ) : Type 0 where
  epoch : (w.nodes g).epoch ≡ 0
  slot_open : is_open one_lies.scope (w.nodes g) 0 ≡ true
  slot : length_of (w.nodes g) 0 ≡ 0
  allowed : is_allowed one_lies.scope (w.nodes g) 0 (input 5) ≡ true

-- its facts
guard_seen : (w : World) (g : ℕ) → is_level w g ≡ true → IsSeen w g
guard_seen w g is =
    let rest = (length_of (w.nodes g) 0 == 0) && is_allowed one_lies.scope (w.nodes g) 0 (input 5) in
    let first = both_true ((w.nodes g).epoch == 0) (is_open one_lies.scope (w.nodes g) 0 && rest) is in
    let second = both_true (is_open one_lies.scope (w.nodes g) 0) rest first.1 in
    let third = both_true (length_of (w.nodes g) 0 == 0) (is_allowed one_lies.scope (w.nodes g) 0 (input 5)) second.1 in record {
      epoch = eqb-true (w.nodes g).epoch 0 first.0;
      slot_open = second.0;
      slot = eqb-true (length_of (w.nodes g) 0) 0 third.0;
      allowed = third.1;
    }

-- so the input is offered in a level slot
may_log : (w : World) → looked_at w ≡ (true, (Some offer_made, [])) → IsOffered one_lies w 0 0 0 (input 5)
may_log w is = record {
  level = record {
    host = omega arith;
    honest = refl;
    epochs = λ g guard. (at g guard).epoch;
    slot_open = λ g guard. (at g guard).slot_open;
    slots = λ g guard. (at g guard).slot;
    goes_on = λ event among.
        let none = subst (λ (ns : List Note). Contains ns (record { event = event; kind = tell.Wedged 0 })) (ap (λ x. x.1.1) is) among in
        omega (arith, none.1);
  };
  offered = placed_in w.ledger 0 offer_made (ap (λ x. x.1.0) is);
  next = λ g guard. refl;
  allowed = λ g guard. (at g guard).allowed;
  credit = omega arith;
}
  where
    all : (is_level w 0 && (is_level w 1 && is_level w 2)) ≡ true
    all = ap (λ x. x.0) is

    of_three : (g : ℕ) → g < 4 → is_honest one_lies g ≡ true → is_level w 0 ≡ true → is_level w 1 ≡ true → is_level w 2 ≡ true
        → is_level w g ≡ true
    of_three zero low honest x y z = x
    of_three (suc zero) low honest x y z = y
    of_three (suc (suc zero)) low honest x y z = z
    of_three (suc (suc (suc zero))) low honest x y z = absurd (cc)
    of_three (suc (suc (suc (suc n)))) low honest x y z = absurd (omega (arith, low))

    at : (g : ℕ) → IsHonestGuard one_lies 0 0 g → IsSeen w g
    at g guard =
        let zeroth = both_true (is_level w 0) (is_level w 1 && is_level w 2) all in
        let rest = both_true (is_level w 1) (is_level w 2) zeroth.1 in
        guard_seen w g (of_three g guard.host guard.honest zeroth.0 rest.0 rest.1)

-- all that the four exchanges ask for is met
pub can_log : CanLog
can_log =
    let same = goes_there (replay one_lies (Input 0 (just 5) ∷ []) (fresh_world one_lies)) offered.1.0 offered.1.1 in
    let x = world_in looked_later (replay one_lies (replicate 4 Exchange) offered.1.0) (true, [])
    (subst (λ w. seen looked_later (replay one_lies (replicate 4 Exchange) w) ≡ (true, Some (true, []))) same computes_later) in
    let first = replay_is one_lies (Input 0 (just 5) ∷ []) (fresh_world one_lies) offered.0 in
    let then = replay_is one_lies (replicate 4 Exchange) offered.1.0 x.0 in
    let happens : HappenAll one_lies (fresh_world one_lies) (Input 0 (just 5) ∷ []) (Ok offered.1.0) = rw (← offered.1.1) first in
    let later : HappenAll one_lies offered.1.0 (replicate 4 Exchange) (Ok x.1.0) = rw (← x.1.1) then in record {
      asked = is_scenario;
      good = are_good;
      tags = have_tags;
      world = offered.1.0;
      happens = happens;
      carried = is_carried;
      may = may_log offered.1.0 offered.1.2;
      next = x.1.0;
      later = later;
      whole = orders_whole x.1.0 (ap (λ y. y.0) x.1.2) (ap (λ y. y.1) x.1.2);
    }

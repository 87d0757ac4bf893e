-- The relay, in each world of a scenario with good guards.
use Rattle.std.proofs.Common.{◌≡◌, ◌≢◌, false, ℕ, ◌<◌, ◌≤◌, ◌⊎◌, List, [], ◌∷◌, Some, Ok, ap, sym, ◌∙◌, inl, inr, arith}
use Rattle.std.specs.Prelude.{slice_get}
use Rattle.std.proofs.lemmas.Option.{slice_get_within}
use Rattle.std.proofs.lemmas.Bool.{cases_order}
use Rattle.nys_bytes.specs.declared.content.Content.{Content}
use Rattle.nys_rules.specs.Events.{Plain}
use Rattle.nys_rules.specs.Events.Plain.{Exchange}
use Rattle.nys_rules.specs.Exchanges.{exchanges_in, IsHonestGuard}
use Rattle.nys_rules.specs.Forged.{HasMade}
use Rattle.nys_rules.specs.Happening.{HappenAll}
use Rattle.nys_rules.specs.Premises.{HasGoodGuards}
use Rattle.nys_rules.specs.Scope.{olympus}
use Rattle.nys_rules.specs.Sending.{said_in}
use Rattle.nys_rules.specs.View.{length_of}
use Rattle.nys_rules.specs.World.{Setting, World}
use Rattle.nys_laws.specs.Worlds.{InEachWorld}
use Rattle.nys_follows.specs.Scenario.{IsScenario}
use Rattle.nys_progress.specs.Carried.{HasTags, IsCarried}
use Rattle.nys_progress.specs.Relay.{HasNoWedge, IsAtSlot, IsRelayable, RelaysInTwo}
use Rattle.nys_progress.specs.Statements.{deliver}
use Rattle.nys_progress.proofs.EndedEpochs.{ended_told, going_of, IsGoing}
use Rattle.nys_progress.proofs.LoggedHere.{inherited_below, IsPlace, no_olympus, place_of}
use Rattle.nys_progress.proofs.MarkedDesks.{StandsIn}
use Rattle.nys_progress.proofs.RelayStages.{logged_after, made_on, one_exchange, voted_after}
use Rattle.nys_progress.proofs.RelayWorlds.{entry_on, HasExchange, IsReached, IsRelaying, no_wedge, relaying_on, same_entry, split_at, voting_of}
use Rattle.nys_progress.proofs.TakenVotes.{NoMark}
use Rattle.nys_progress.proofs.ToldLemmas.{HasRoom}
use Rattle.nys_progress.proofs.ToldLemmas.HasRoom.{Told, Within}
use Rattle.nys_progress.proofs.ToldSteps.{keep_both}

-- the slot of an entry that was logged by votes is below 1,024
slot_low : {S : Type 0} (setting : Setting S) (w : World) (p : IsPlace setting w) (e h g slot : ℕ)
    → IsGoing w e → h < setting.scope.rules.hosts
    → IsHonestGuard setting e h g → (w.nodes g).epoch ≡ e → (w.nodes g).retired h ≡ false
    → (w.nodes g).base h ≤ slot
    → slot < length_of (w.nodes g) h → HasRoom w.ledger h (length_of (w.nodes g) h) → slot < 1024
slot_low setting w p e h g slot going host guard epoch lives above past (Within le) = omega (arith, past, le)
slot_low setting w p e h g slot going host guard epoch lives above past (Told d at content le has) = absurd
    (let low = inherited_below setting w p e h g going host (no_olympus setting w p e h g guard) epoch lives d at content has in
    omega (arith, past, le, low, above))

-- a log that has a slot or more ends there or goes on
at_or_past : (len slot : ℕ) → slot ≤ len → (slot < len) ⊎ (len ≡ slot)
at_or_past len slot le = elim (cases_order slot len) [
  | inl same ↦ inr (sym same)
  | inr (inl low) ↦ inl low
  | inr (inr high) ↦ absurd (omega (arith, le, high))
]

-- a content that may be relayed is being relayed
relaying_of : {S : Type 0} (setting : Setting S) → IsScenario setting → HasGoodGuards setting.scope
    → HasTags setting.scope → (w : World)
    → IsReached setting w → (e h slot : ℕ) (content : Content) → IsCarried content
    → IsRelayable setting w e h slot content
    → IsRelaying setting e h slot content w
relaying_of {S} setting asked good tags w reached e h slot content carried may = record {
  stands = record {
    reached = reached;
    place = place;
    going = going;
    host = may.host;
    epoch = (asked.guards e h g may.logged.1.guard.guards).epoch;
    room = slot_low setting w place e h g slot going may.host may.logged.1.guard at.epoch at.lives may.logged.1.above
        (slice_get_within ((w.nodes g).logs h) slot content may.logged.1.entry)
        ((keep_both setting reached.events w reached.happen g other).1.room h);
    tags = tags;
    carried = carried;
    here = here;
  };
  logger = g;
  logs = may.logged.1.guard;
  entry = may.logged.1.entry;
}
  where
    g : ℕ
    g = may.logged.0

    place : IsPlace setting w
    place = place_of setting asked good reached.events w reached.happen

    other : g ≢ olympus
    other = no_olympus setting w place e h g may.logged.1.guard

    at : IsAtSlot w e h slot g
    at = may.guards g may.logged.1.guard

    going : IsGoing w e
    going = going_of w e (ended_told setting reached.events w reached.happen) may.goes_on
        (let behind = (place.follows.nodes g other).behind in let now = at.epoch in omega (arith, behind, now))

    base_same : (x : ℕ) → IsHonestGuard setting e h x → (w.nodes x).base h ≡ (w.nodes g).base h
    base_same x guard =
        let mine = (place.follows.nodes x (no_olympus setting w place e h x guard)).base h in
        let its = (place.follows.nodes g other).base h in
        mine ∙ (ap (λ n. place.history.base n h) ((may.guards x guard).epoch ∙ sym at.epoch) ∙ sym its)

    here : (x : ℕ) → IsHonestGuard setting e h x → StandsIn e h slot NoMark (w.nodes x)
    here x guard =
        let there = may.guards x guard in
        let now = there.epoch in
        let base = base_same x guard in
        let above = may.logged.1.above in record {
          rises = omega (arith, now);
          here = λ in_it. record {
            lives = there.lives;
            above = omega (arith, base, above);
            stands = elim (at_or_past (length_of (w.nodes x) h) slot there.entries) [
              | inl past ↦ inl past
              | inr same ↦ inr (same, tt)
            ];
          };
        }

-- what is being relayed two exchanges put into the log of each honest guard
pub relayed_in_two : {S : Type 0} (setting : Setting S) (e h slot : ℕ) (content : Content) (w next : World) (events : List Plain)
    → IsRelaying setting e h slot content w → HappenAll setting w events (Ok next) → HasNoWedge events
    → 2 ≤ exchanges_in events → (g : ℕ) → IsHonestGuard setting e h g
    → slice_get ((next.nodes g).logs h) slot ≡ Some content
relayed_in_two {S} setting e h slot content w next events start comes none two g guard =
    same_entry setting e h slot content next last g guard (length_on g guard)
  where
    one : HasExchange setting 1 w next
    one = split_at setting 1 w next events none comes two

    here : IsRelaying setting e h slot content one.here
    here = relaying_on setting e h slot content w one.here one.before one.no_wedge_before one.comes start

    there : IsRelaying setting e h slot content one.there
    there = relaying_on setting e h slot content one.here one.there (Exchange ∷ []) no_wedge (one_exchange setting one.here one.there one.exchange) here

    other : HasExchange setting 0 one.there next
    other = split_at setting 0 one.there next one.later one.no_wedge_later one.goes one.left

    again : IsRelaying setting e h slot content other.here
    again = relaying_on setting e h slot content one.there other.here other.before other.no_wedge_before other.comes there

    done : IsRelaying setting e h slot content other.there
    done = relaying_on setting e h slot content other.here other.there (Exchange ∷ []) no_wedge (one_exchange setting other.here other.there other.exchange) again

    last : IsRelaying setting e h slot content next
    last = relaying_on setting e h slot content other.there next other.later other.no_wedge_later other.goes done

    voted : (m : ℕ) → IsHonestGuard setting e h m
        → HasMade other.here.ledger m (said_in e (deliver h slot content))
    voted m maker =
        made_on setting m m (said_in e (deliver h slot content)) one.there other.here other.before (no_olympus setting one.there there.stands.place e h m maker) other.comes
        (voted_after setting e h slot content one.here one.there here (voting_of setting e h slot content one.there there) one.exchange m maker)

    length_on : (m : ℕ) → IsHonestGuard setting e h m → slot < length_of (next.nodes m) h
    length_on m maker =
        let past = logged_after setting e h slot content other.here other.there again.stands (voting_of setting e h slot content other.there done) other.exchange voted m maker in
        let entry = same_entry setting e h slot content other.there done m maker past in
        slice_get_within ((next.nodes m).logs h) slot content
        (entry_on setting h slot content m other.there next other.later (no_olympus setting other.there done.stands.place e h m maker) other.goes entry)

-- two exchanges put it into the log of each honest guard
pub relays_in_two : {S : Type 0} (setting : Setting S) → IsScenario setting → HasGoodGuards setting.scope
    → HasTags setting.scope
    → InEachWorld setting (RelaysInTwo setting)
relays_in_two setting asked good tags first w happen e h slot content carried may events next comes none two g guard =
    relayed_in_two setting e h slot content w next events
    (relaying_of setting asked good tags w (record { events = first; happen = happen }) e h slot content carried may) comes none two g guard

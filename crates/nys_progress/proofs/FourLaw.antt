-- Four exchanges log a content that its host has offered in a level slot.
use Rattle.std.proofs.Common.{◌≡◌, ◌≢◌, ℕ, ◌+◌, ◌<◌, ◌≤◌, ◌⊎◌, List, [], ◌∷◌, Some, Ok, ap, sym, subst, ◌∙◌, inl, inr, arith}
use Rattle.std.specs.Prelude.{Contains, Option, slice_get}
use Rattle.std.proofs.lemmas.Bool.{cases_eq}
use Rattle.nys_bytes.specs.declared.content.Content.{Content}
use Rattle.nys_rules.specs.declared.notice.NoteKind.{NoteKind}
use Rattle.nys_rules.specs.declared.notice.NoteKind.TheVariants as tell
use Rattle.nys_rules.specs.Events.{Plain}
use Rattle.nys_rules.specs.Events.Plain.{Exchange}
use Rattle.nys_rules.specs.Exchanges.{exchanges_in, IsHonestGuard}
use Rattle.nys_rules.specs.Forged.{HasMade}
use Rattle.nys_rules.specs.Happening.{HappenAll, OlympusDecides, OlympusRetires, wedge_note}
use Rattle.nys_rules.specs.Olympus.{OlympusView}
use Rattle.nys_rules.specs.Packets.{Done, Given, Sent}
use Rattle.nys_rules.specs.Scope.{olympus}
use Rattle.nys_rules.specs.Premises.{HasGoodGuards}
use Rattle.nys_rules.specs.Sending.{said_in}
use Rattle.nys_rules.specs.View.{length_of}
use Rattle.nys_rules.specs.World.{after_olympus, Setting, with_decided, with_note, World}
use Rattle.nys_rules.proofs.WorldFrames.{after_olympus_ok, decided_frame}
use Rattle.nys_laws.specs.Own.{body_at, HasSaid}
use Rattle.nys_laws.specs.Own.Stage.{Ordered}
use Rattle.nys_laws.specs.Worlds.{InEachWorld}
use Rattle.nys_follows.specs.Scenario.{IsScenario}
use Rattle.nys_progress.specs.Carried.{HasTags}
use Rattle.nys_progress.specs.FourExchanges.{AreThere, HasWholeOrders, LogsInFour}
use Rattle.nys_progress.specs.Relay.{HasNoWedge}
use Rattle.nys_progress.specs.Statements.{deliver}
use Rattle.nys_progress.proofs.CertificateStage.{IsCertificateFor}
use Rattle.nys_progress.proofs.CollectedSteps.{placed_in}
use Rattle.nys_progress.proofs.EventMoves.{happen_moves, MovesKeep}
use Rattle.nys_progress.proofs.Exchanging.{place_in, pool_keep, PoolStays}
use Rattle.nys_progress.proofs.FourStages.{certificate_fits, certificate_sent, collected_after, each_or_one, guard_voted, host_voted}
use Rattle.nys_progress.proofs.LoggedHere.{no_olympus}
use Rattle.nys_progress.proofs.MarkedDesks.{Stands}
use Rattle.nys_progress.proofs.OfferedContents.{own_guard, past_entry, relaying_past, standing_of, voting_of_offer}
use Rattle.nys_progress.proofs.OrderLaw.{IsOffering, offering_of, offering_on, ordered_after}
use Rattle.nys_progress.proofs.OrderMarks.{HasOrder}
use Rattle.nys_progress.proofs.RelayLaw.{relayed_in_two}
use Rattle.nys_progress.proofs.RelayStages.{logged_after, made_on, one_exchange}
use Rattle.nys_progress.proofs.RelayWorlds.{entry_on, HasExchange, here_of, no_wedge, split_at}
use Rattle.nys_progress.proofs.TakenVotes.{NoMark}

-- ---- bytes that were given stay

-- what events gave by now they gave then
abbrev GivenStays : World → World → Type 0
GivenStays w next = (x : Given) → Contains w.injected x → Contains next.injected x

-- where nothing was given
same_given : (w next : World) → next.injected ≡ w.injected → GivenStays w next
same_given w next is x among = subst (λ g. Contains g x) (sym is) among

-- the Olympus that acted
olympus_given : (o : OlympusView) (done : Done) (kind : NoteKind) (w next : World)
    → after_olympus o done (with_note kind w) ≡ Ok next → GivenStays w next
olympus_given o done kind w next is =
    same_given w next (ap (λ (x : World). x.injected) (after_olympus_ok o done (with_note kind w) next is))

-- a decision
decide_given : {S : Type 0} (setting : Setting S) (w next : World) (h : ℕ) → OlympusDecides setting w h (Ok next) → GivenStays w next
decide_given setting w next h o =
    let was = record w { olympus = o.after } in
    let mid = with_decided h 0 (o.after.decided h) was in
    let is = o.result_is in
    let same : next ≡ with_note (tell.Decide h o.answer) mid = cc in
    same_given w next
    (ap (λ (x : World). x.injected) same ∙ ap (λ (x : World). x.injected) (decided_frame h 0 (o.after.decided h) was))

-- a host that is given up, or not
retire_given : (w next : World) (h : ℕ) → OlympusRetires w h (Ok next) → GivenStays w next
retire_given w next h o =
    let is = o.result_is in
    let same : next ≡ with_note (tell.Retire h o.answer) (record w { olympus = o.after }) = cc in
    same_given w next (ap (λ (x : World). x.injected) same)

-- each step
given_keep : {S : Type 0} (setting : Setting S) → MovesKeep setting (Unit {0}) GivenStays
given_keep setting = record {
  same = λ w x among. among;
  both = λ w mid next one other x among. other x (one x among);
  told = λ w events delivered injected takes stay. stay;
  noted = λ w kind x among. among;
  node = λ w g after ledger more longest run called x among. among;
  hears = λ w frame after done ledger more heard x among. among;
  packets = λ w more x among. among;
  wedges = λ may w next o. olympus_given o.after o.done (wedge_note w.olympus o.did) w next (sym o.result_is);
  decides = λ w next h o. decide_given setting w next h o;
  retires = λ w next h o. retire_given w next h o;
  opens = λ w next o. olympus_given o.after o.done (tell.Open o.answer) w next (sym o.result_is);
}

-- so bytes that are there stay there
there_on : {S : Type 0} (setting : Setting S) (w next : World) (events : List Plain) → HappenAll setting w events (Ok next)
    → (frame : List ℕ) → AreThere w.pool w.injected frame → AreThere next.pool next.injected frame
there_on setting w next events happen frame (inl sent) =
    let at = place_in w.pool sent.0 sent.1 in
    inl (sent.0, placed_in next.pool at.0 sent.0 (happen_moves setting PoolStays (pool_keep setting) w next events happen at.0 sent.0 at.1), sent.2)
there_on setting w next events happen frame (inr given) =
    inr (given.0, happen_moves setting GivenStays (given_keep setting) w next events happen given.0 given.1, given.2)

-- orders that are whole later are whole now
whole_before : {S : Type 0} (setting : Setting S) (e h slot : ℕ) (w next : World) (events : List Plain)
    → HappenAll setting w events (Ok next) → HasWholeOrders setting next e h slot → HasWholeOrders setting w e h slot
whole_before setting e h slot w next events happen whole = record {
  well = λ frame there is. whole.well frame (there_on setting w next events happen frame there) is;
  whole = λ frame there is. whole.whole frame (there_on setting w next events happen frame there) is;
}

-- ---- the exchanges

-- an offer after one exchange, of several
record HasTurn {S : Type 0} (setting : Setting S) (e h slot : ℕ) (content : Content) (n : ℕ) (w next : World) : Type 0 where
  turn : HasExchange setting n w next
  here : IsOffering setting e h slot content turn.here
  there : IsOffering setting e h slot content turn.there

-- where there is one more exchange there is such a turn
turn_of : {S : Type 0} (setting : Setting S) (e h slot : ℕ) (content : Content) (n : ℕ) (w next : World)
    → HasExchange setting n w next → IsOffering setting e h slot content w → HasTurn setting e h slot content n w next
turn_of setting e h slot content n w next turn r =
    let here = offering_on setting e h slot content w turn.here turn.before turn.no_wedge_before turn.comes r in
    record {
      turn = turn;
      here = here;
      there = offering_on setting e h slot content turn.here turn.there (Exchange ∷ []) no_wedge
          (one_exchange setting turn.here turn.there turn.exchange) here;
    }

-- the next exchange
next_turn : {S : Type 0} (setting : Setting S) (e h slot : ℕ) (content : Content) (n : ℕ) (w next : World)
    → (t : HasTurn setting e h slot content (n + 1) w next) → HasTurn setting e h slot content n t.turn.there next
next_turn setting e h slot content n w next t =
    turn_of setting e h slot content n t.turn.there next
    (split_at setting n t.turn.there next t.turn.later t.turn.no_wedge_later t.turn.goes (let left = t.turn.left in omega (arith, left)))
    t.there

-- a packet in the pool stays there
sent_on : {S : Type 0} (setting : Setting S) (w next : World) (events : List Plain) → HappenAll setting w events (Ok next)
    → (p : Sent) → Contains w.pool p → Contains next.pool p
sent_on setting w next events happen p among =
    let at = place_in w.pool p among in
    placed_in next.pool at.0 p (happen_moves setting PoolStays (pool_keep setting) w next events happen at.0 p at.1)

-- where one honest guard is past the slot after an exchange, two more log the content
logs_where_past : {S : Type 0} (setting : Setting S) (e h slot : ℕ) (content : Content) (n : ℕ) (w next : World)
    → (t : HasTurn setting e h slot content n w next) → 2 ≤ n → (m : ℕ) → IsHonestGuard setting e h m
    → slot < length_of (t.turn.there.nodes m) h → (g : ℕ) → IsHonestGuard setting e h g
    → slice_get ((next.nodes g).logs h) slot ≡ Some content
logs_where_past setting e h slot content n w next t two m maker past g guard =
    relayed_in_two setting e h slot content t.turn.there next t.turn.later
    (relaying_past setting e h slot content t.turn.there t.there m maker past) t.turn.goes t.turn.no_wedge_later
    (let left = t.turn.left in omega (arith, left, two)) g guard

-- the last two exchanges, where the host has the orders of all honest guards
logs_where_collected : {S : Type 0} (setting : Setting S) (e h slot : ℕ) (content : Content) (w next : World)
    → (two : HasTurn setting e h slot content 2 w next) → HasWholeOrders setting next e h slot
    → ((m : ℕ) → IsHonestGuard setting e h m → HasSaid two.turn.here.ledger m Ordered e h slot content)
    → length_of (two.turn.there.nodes h) h ≡ slot → (g : ℕ) → IsHonestGuard setting e h g
    → slice_get ((next.nodes g).logs h) slot ≡ Some content
logs_where_collected {S} setting e h slot content w next two whole said at g guard =
    entry_on setting h slot content g four.turn.there next four.turn.later
    (no_olympus setting four.turn.there four.there.place e h g guard) four.turn.goes
    (past_entry setting e h slot content four.turn.there four.there g guard past)
  where
    mid : World
    mid = two.turn.there

    all : (m : ℕ) → IsHonestGuard setting e h m → HasOrder m ((mid.nodes h).desks h)
    all m maker = collected_after setting e h slot content two.turn.here mid two.here two.there two.turn.exchange said at m maker

    three : HasTurn setting e h slot content 1 mid next
    three = next_turn setting e h slot content 1 w next two

    four : HasTurn setting e h slot content 0 three.turn.there next
    four = next_turn setting e h slot content 0 mid next three

    orders : List (Option (List (ℕ × List ℕ)))
    orders = ((mid.nodes h).desks h).orders

    top : (x : ℕ) → IsHonestGuard setting e h x → x ≢ olympus
    top x it = no_olympus setting mid two.there.place e h x it

    fits : (x : ℕ) → IsHonestGuard setting e h x → x ≢ h → IsCertificateFor setting e h slot content x orders
    fits x it ne = certificate_fits setting e h slot content mid two.there at all
        (whole_before setting e h slot mid next two.turn.later two.turn.goes whole) x it ne

    said_on : (x : ℕ) → IsHonestGuard setting e h x → HasSaid three.turn.here.ledger x Ordered e h slot content
    said_on x it =
        made_on setting x x (said_in e (body_at Ordered h slot content)) mid three.turn.here three.turn.before (top x it) three.turn.comes
        (made_on setting x x (said_in e (body_at Ordered h slot content)) two.turn.here mid (Exchange ∷ []) (top x it)
        (one_exchange setting two.turn.here mid two.turn.exchange) (said x it))

    voted_then : (x : ℕ) → IsHonestGuard setting e h x
        → HasMade three.turn.there.ledger x (said_in e (deliver h slot content))
    voted_then x it = elim (cases_eq x h) [
      | inl same ↦
          let mine = host_voted setting e h slot content mid two.there at all in
          let statement = said_in e (deliver h slot content) in
          let host = own_guard setting e h slot content mid two.there in
          subst (λ y. HasMade three.turn.there.ledger y statement) (sym same)
          (made_on setting h h statement three.turn.here three.turn.there (Exchange ∷ []) (top h host)
          (one_exchange setting three.turn.here three.turn.there three.turn.exchange)
          (made_on setting h h statement mid three.turn.here three.turn.before (top h host) three.turn.comes mine))
      | inr ne ↦
          guard_voted setting e h slot content three.turn.here three.turn.there three.here three.there three.turn.exchange x it ne orders
          (fits x it ne)
          (sent_on setting mid three.turn.here three.turn.before three.turn.comes _ (certificate_sent setting e h slot content mid two.there at all x it ne))
          (said_on x it)
    ]

    voted : (x : ℕ) → IsHonestGuard setting e h x
        → HasMade four.turn.here.ledger x (said_in e (deliver h slot content))
    voted x it =
        made_on setting x x (said_in e (deliver h slot content)) three.turn.there four.turn.here four.turn.before (top x it) four.turn.comes
        (voted_then x it)

    past : slot < length_of (four.turn.there.nodes g) h
    past = logged_after setting e h slot content four.turn.here four.turn.there
        (standing_of setting e h slot content four.turn.here four.here)
        (voting_of_offer setting e h slot content four.turn.there four.there) four.turn.exchange voted g guard

-- so four log it
pub logged_from : {S : Type 0} (setting : Setting S) (e h slot : ℕ) (content : Content) (w next : World) (events : List Plain)
    → IsOffering setting e h slot content w → HappenAll setting w events (Ok next) → HasNoWedge events
    → 4 ≤ exchanges_in events → HasWholeOrders setting next e h slot → (g : ℕ) → IsHonestGuard setting e h g
    → slice_get ((next.nodes g).logs h) slot ≡ Some content
logged_from {S} setting e h slot content w next events start comes none four whole g guard =
    by (each_or_one setting e h Said Past start.place.asked.hosts (λ m maker.
    ordered_after setting e h slot content one.turn.here one.turn.there one.here one.there one.turn.exchange m maker))
  where
    Logged : Type 0
    Logged = slice_get ((next.nodes g).logs h) slot ≡ Some content

    one : HasTurn setting e h slot content 3 w next
    one = turn_of setting e h slot content 3 w next (split_at setting 3 w next events none comes four) start

    Said : ℕ → Type 0
    Said m = HasSaid one.turn.there.ledger m Ordered e h slot content

    Past : ℕ → Type 0
    Past m = slot < length_of (one.turn.there.nodes m) h

    two : HasTurn setting e h slot content 2 one.turn.there next
    two = next_turn setting e h slot content 2 w next one

    host : IsHonestGuard setting e h h
    host = own_guard setting e h slot content two.turn.there two.there

    said_on : ((m : ℕ) → IsHonestGuard setting e h m → Said m) → (m : ℕ) → IsHonestGuard setting e h m
        → HasSaid two.turn.here.ledger m Ordered e h slot content
    said_on all m maker =
        made_on setting m m (said_in e (body_at Ordered h slot content)) one.turn.there two.turn.here two.turn.before
        (no_olympus setting one.turn.there one.there.place e h m maker) two.turn.comes (all m maker)

    by_host : ((m : ℕ) → IsHonestGuard setting e h m → Said m) → Stands h slot NoMark (two.turn.there.nodes h) → Logged
    by_host all (inl past) = logs_where_past setting e h slot content 2 one.turn.there next two (omega arith) h host past g guard
    by_host all (inr at) = logs_where_collected setting e h slot content one.turn.there next two whole (said_on all) at.0 g guard

    by : ((m : ℕ) → IsHonestGuard setting e h m → Said m) ⊎ ((m : ℕ) × IsHonestGuard setting e h m × Past m) → Logged
    by (inl all) =
        by_host all (here_of setting e h slot content two.turn.there
        (standing_of setting e h slot content two.turn.there two.there) h host).stands
    by (inr late) = logs_where_past setting e h slot content 3 w next one (omega arith) late.0 late.1 late.2 g guard

-- in each world
pub logs_in_four : {S : Type 0} (setting : Setting S) → IsScenario setting → HasGoodGuards setting.scope
    → HasTags setting.scope
    → InEachWorld setting (LogsInFour setting)
logs_in_four setting asked good tags first w happen e h slot content carried may events next comes none four whole g guard =
    logged_from setting e h slot content w next events
    (offering_of setting asked good tags w (record { events = first; happen = happen }) e h slot content carried may g guard)
    comes none four whole g guard

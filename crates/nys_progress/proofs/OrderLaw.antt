-- An honest host's offer is ordered by each honest guard after one exchange.
use Rattle.std.proofs.Common.{◌≡◌, ◌≢◌, ℕ, ◌<◌, ◌≤◌, ◌⊎◌, ◌&&◌, Bool, true, List, [], ◌∷◌, Some, None, Ok, refl, ap, sym, subst, ◌∙◌, inl, inr, arith}
use Rattle.std.specs.Prelude.{if◌then◌else◌, is_none, Option}
use Rattle.std.proofs.lemmas.Bool.{cases_eq}
use Rattle.std.proofs.lemmas.Option.{slice_get_within}
use Rattle.nys_agreement.proofs.ListLemmas.{get_inside}
use Rattle.nys_agreement.specs.Said.{Said}
use Rattle.nys_bytes.specs.declared.content.Content.{Content}
use Rattle.nys_votes.specs.Credit.{allows}
use Rattle.nys_rules.specs.Events.{Plain}
use Rattle.nys_rules.specs.Events.Plain.{Exchange}
use Rattle.nys_rules.specs.Exchanges.{IsHonestGuard}
use Rattle.nys_rules.specs.Happening.{HappenAll, Happens}
use Rattle.nys_rules.specs.Heads.{is_allowed, is_attested_next}
use Rattle.nys_rules.specs.Premises.{HasGoodGuards}
use Rattle.nys_rules.specs.Rules.{only_if, passing_only, to_order}
use Rattle.nys_rules.specs.Scope.{olympus, Scope}
use Rattle.nys_rules.specs.Sending.{said_in}
use Rattle.nys_rules.specs.View.{is_open, length_of, View}
use Rattle.nys_rules.specs.World.{is_honest, Setting, World}
use Rattle.nys_rules.proofs.DueLemmas.{quiet_order}
use Rattle.nys_laws.specs.Grounds.{IsOpenAt}
use Rattle.nys_laws.specs.Own.{body_at, HasSaid}
use Rattle.nys_laws.specs.Own.Stage.{Offered, Ordered}
use Rattle.nys_laws.specs.Rests.{IsSound}
use Rattle.nys_laws.specs.Worlds.{InEachWorld}
use Rattle.nys_laws.proofs.EpochWorlds.{histories_go_on}
use Rattle.nys_laws.proofs.LiveLemmas.{open_is}
use Rattle.nys_follows.proofs.FeedingFollows.{truthful_of}
use Rattle.nys_follows.proofs.FeedingWorlds.{hosts_of_scenario, set_up_of}
use Rattle.nys_follows.proofs.PromiseLemmas.{machine_keeps}
use Rattle.nys_follows.specs.Scenario.{IsScenario}
use Rattle.nys_progress.specs.Carried.{HasTags, IsCarried}
use Rattle.nys_progress.specs.Ordered.{IsOffered, OrdersInOne}
use Rattle.nys_progress.specs.Relay.{HasNoWedge}
use Rattle.nys_progress.proofs.EndedEpochs.{ended_told, going_of, goes_quietly, IsGoing}
use Rattle.nys_progress.proofs.Exchanging.{IsGoingOn}
use Rattle.nys_progress.proofs.HeldOffers.{HasHeld, hold_own}
use Rattle.nys_progress.proofs.LoggedHere.{IsPlace, no_olympus, place_of}
use Rattle.nys_progress.proofs.MarkedDesks.{IsHere, keep_votes, Stands}
use Rattle.nys_progress.proofs.OrderStage.{offer_exchanged}
use Rattle.nys_progress.proofs.ReadyContents.{allowed_may, attested_of, IsReadyFor, known_of, may_take, ready_steps}
use Rattle.nys_progress.proofs.RelayStages.{made_on, one_exchange}
use Rattle.nys_progress.proofs.RelayWorlds.{entry_on, HasExchange, IsReached, no_wedge, node_on, reached_on, split_at}
use Rattle.nys_progress.proofs.TakenVotes.{in_epoch, live_by, NoMark, not_wedged, open_by}

-- an honest host has offered a content, and each honest guard is at its slot, where it may be ordered, or past it
pub record IsOffering {S : Type 0} (setting : Setting S) (e h slot : ℕ) (content : Content) (w : World) : Type 0 where
  pub reached : IsReached setting w
  pub place : IsPlace setting w
  pub going : IsGoing w e
  pub host : h < setting.scope.rules.hosts
  pub honest : is_honest setting h ≡ true
  pub epoch : e < setting.scope.epochs
  pub room : slot < 1024
  pub tags : HasTags setting.scope
  pub carried : IsCarried content
  pub credit : 1 ≤ setting.scope.credit e
  pub fine : (g : ℕ) → IsHonestGuard setting e h g → IsReadyFor setting.scope e h slot content (w.nodes g)
  pub offered : HasSaid w.ledger h Offered e h slot content

-- h isn't the Olympus
pub not_top : {S : Type 0} (setting : Setting S) (e h slot : ℕ) (content : Content) (w : World)
    → IsOffering setting e h slot content w → h ≢ olympus
not_top setting e h slot content w r is = let low = r.host in let few = r.place.asked.hosts in omega (arith, low, few, is)

-- so it stays over events without a wedge
pub offering_on : {S : Type 0} (setting : Setting S) (e h slot : ℕ) (content : Content) (w next : World) (events : List Plain)
    → HasNoWedge events → HappenAll setting w events (Ok next) → IsOffering setting e h slot content w
    → IsOffering setting e h slot content next
offering_on setting e h slot content w next events none happen r =
    let reached = reached_on setting w next events r.reached happen in
    let goes = histories_go_on setting (set_up_of setting r.place.asked) events w next r.place.history happen r.place.follows in
    record {
      reached = reached;
      place = place_of setting r.place.asked r.place.good reached.events next reached.happen;
      going = goes_quietly setting w next events e none happen goes.rises r.going;
      host = r.host;
      honest = r.honest;
      epoch = r.epoch;
      room = r.room;
      tags = r.tags;
      carried = r.carried;
      credit = r.credit;
      fine = λ g guard. node_on setting g (λ x ledger v. IsReadyFor setting.scope e h slot content v)
          (ready_steps setting g e h slot content r.credit r.carried.range) w next events happen (no_olympus setting w r.place e h g guard) (r.fine g guard);
      offered = made_on setting h h (said_in e (body_at Offered h slot content)) w next events
          (not_top setting e h slot content w r) happen r.offered;
    }

-- the order rule is enabled in an open slot where the node didn't order, holds an offer, and that may be ordered
enabled_order : {S : Type 0} (scope : Scope S) (v : View) (h : ℕ) (content : Content)
    → is_open scope v h ≡ true
    → (v.desks h).ordered ≡ None → (v.desks h).held ≡ Some content
    → is_attested_next scope v h content ≡ true
    → is_allowed scope v h content ≡ true → to_order scope v h ≡ Some content
unfolding to_order
enabled_order scope v h content opened none held next allowed =
    let value = passing_only (λ c. is_attested_next scope v h c && is_allowed scope v h c) (v.desks h).held in
    ap (λ (b : Bool). only_if (b && is_none (v.desks h).ordered) value) opened
    ∙ (ap (λ (o : Option Content). only_if (is_none o) value) none
    ∙ (ap (passing_only (λ c. is_attested_next scope v h c && is_allowed scope v h c)) held
    ∙ (ap (λ (b : Bool). if b && is_allowed scope v h content then Some content else None) next
    ∙ ap (λ (b : Bool). if b then Some content else None) allowed)))

-- an offer of h for the slot is of the content
pub one_offer : {S : Type 0} (setting : Setting S) (e h slot : ℕ) (content : Content) (w : World)
    → IsOffering setting e h slot content w
    → (c : Content) → HasSaid w.ledger h Offered e h slot c → c ≡ content
one_offer setting e h slot content w r c has = (r.place.promised.once h).offers e h slot c content has r.offered

-- after an exchange each honest guard has ordered it, or is past the slot
pub ordered_after : {S : Type 0} (setting : Setting S) (e h slot : ℕ) (content : Content) (w next : World)
    → IsOffering setting e h slot content w
    → IsOffering setting e h slot content next → Happens setting w Exchange (Ok next) → (g : ℕ)
    → IsHonestGuard setting e h g
    → (slot < length_of (next.nodes g) h) ⊎ HasSaid next.ledger g Ordered e h slot content
unfolding is_allowed
ordered_after {S} setting e h slot content w next before r happens g guard = by_place here.stands
  where
    v : View
    v = next.nodes g

    other : g ≢ olympus
    other = no_olympus setting next r.place e h g guard

    on : IsGoingOn setting e next
    on = record { history = r.place.history; follows = r.place.follows; going = r.going }

    now : v.epoch ≡ e
    now = in_epoch setting e g next on other (r.fine g guard).stands.rises

    here : IsHere h slot NoMark v
    here = (r.fine g guard).stands.here now

    sound : IsSound setting g next.ledger v
    sound = (r.place.voted g other).sound

    low : h < 32
    low = let is = r.host in let few = r.place.asked.hosts in omega (arith, is, few)

    here_said : (c : Content) → length_of v h ≡ slot
        → HasSaid next.ledger h Offered v.epoch h (length_of v h) c
        → HasSaid next.ledger h Offered e h slot c
    here_said c at has =
        subst (λ n. HasSaid next.ledger h Offered n h slot c) now
        (subst (λ n. HasSaid next.ledger h Offered v.epoch h n c) at has)

    held : length_of v h ≡ slot → HasHeld (v.desks h)
    held at = elim (cases_eq g h) [
      | inl same ↦
          let mine = subst (λ x. HasSaid next.ledger x Offered e h slot content) (sym same) r.offered in
          elim (sound.own.own.said Offered h slot content
          (subst (λ n. HasSaid next.ledger g Offered n h slot content) (sym now) mine)) [
            | inl past ↦ absurd (omega (arith, past, at))
            | inr kept ↦ hold_own setting r.reached.events next r.reached.happen g other h content kept.1
          ]
      | inr ne ↦
          elim ((offer_exchanged setting e h slot content g w next (record {
            offer = record {
              told = record {
                hosts = hosts_of_scenario setting r.place.asked;
                tags = r.tags;
                carried = r.carried;
                epoch = r.epoch;
                host = r.host;
                room = r.room;
                maker = r.host;
                taker = guard.guards;
                other = λ is. ne (sym is);
              };
              honest = guard.honest;
              taker = other;
            };
            asked = set_up_of setting r.place.asked;
            host = r.honest;
            on = record { history = before.place.history; follows = before.place.follows; going = before.going };
            votes = keep_votes setting (hosts_of_scenario setting r.place.asked) before.reached.events w before.reached.happen;
            here = (before.fine g guard).stands;
            sent = before.place.sent h r.honest (not_top setting e h slot content w before) Offered e h slot content before.offered g guard.guards ne;
          }) happens).here now).stands [
            | inl past ↦ absurd (omega (arith, past, at))
            | inr marked ↦ marked.1
          ]
    ]

    must : length_of v h ≡ slot → (v.desks h).ordered ≡ None → ⊥
    must at none =
        let offer = held at in
        let said = (sound.hears.desks h).held offer.0 offer.1 low r.honest in
        let same = one_offer setting e h slot content next r offer.0 (here_said offer.0 at said) in
        let above = here.above in let room = r.room in
        let opened = open_by setting.scope v h
        (live_by setting.scope v h r.host
        (subst (λ n. setting.scope.guards n h v.me ≡ true) (sym now) (subst (λ x. setting.scope.guards e h x ≡ true) (sym sound.own.host) guard.guards))
        here.lives)
        (not_wedged setting e g next on other now) (omega (arith, above, at)) (omega (arith, room, at)) in
        let allowed : is_allowed setting.scope v h content ≡ true =
        subst (λ n. allows (setting.scope.credit n) (length_of v h) (v.heads h) content ≡ true) (sym now)
        (subst (λ n. allows (setting.scope.credit e) n (v.heads h) content ≡ true) (sym at)
        (allowed_may (setting.scope.credit e) slot (v.heads h) content ((r.fine g guard).allowed now at))) in
        let attested = attested_of setting next r.place g (let small = guard.host in let few = r.place.asked.hosts in omega (arith, small, few))
        guard.honest sound h content ((r.fine g guard).known now at) in
        let no = sym (quiet_order setting.scope v h (r.place.quiet g) low)
        ∙ enabled_order setting.scope v h content opened none (offer.1 ∙ ap Some same) attested allowed in
        cc

    by_own : length_of v h ≡ slot → (o : Option Content) → (v.desks h).ordered ≡ o
        → (slot < length_of v h) ⊎ HasSaid next.ledger g Ordered e h slot content
    by_own at None is = absurd (must at is)
    by_own at (Some own) is =
        let made = sound.own.own.kept Ordered h own is in
        let here_made = subst (λ n. HasSaid next.ledger g Ordered n h slot own) now
        (subst (λ n. HasSaid next.ledger g Ordered v.epoch h n own) at made) in
        let ledger = r.place.machine.tracks.ledger in
        let was = (machine_keeps setting r.place.asked next r.place.machine).inputs.orders g e h slot own (truthful_of setting h (not_top setting e h slot content next r) r.honest).honest
        (ledger.here g (Said.Order e h slot own) here_made) in
        let same = one_offer setting e h slot content next r own (ledger.there h (Said.Offer e h slot own) was) in
        inr (subst (λ c. HasSaid next.ledger g Ordered e h slot c) same here_made)

    by_place : Stands h slot NoMark v
        → (slot < length_of v h) ⊎ HasSaid next.ledger g Ordered e h slot content
    by_place (inl past) = inl past
    by_place (inr at) = by_own at.0 (v.desks h).ordered refl

-- a slot that is level, with an offer of a content that may be ordered
pub offering_of : {S : Type 0} (setting : Setting S) → IsScenario setting → HasGoodGuards setting.scope
    → HasTags setting.scope → (w : World)
    → IsReached setting w → (e h slot : ℕ) (content : Content) → IsCarried content
    → IsOffered setting w e h slot content → (g : ℕ)
    → IsHonestGuard setting e h g → IsOffering setting e h slot content w
unfolding is_allowed
offering_of {S} setting asked good tags w reached e h slot content carried may g guard = record {
  reached = reached;
  place = place;
  going = going;
  host = may.level.host;
  honest = may.level.honest;
  epoch = (asked.guards e h g guard.guards).epoch;
  room = let room = (opened g guard).room in let at = may.level.slots g guard in omega (arith, room, at);
  tags = tags;
  carried = carried;
  credit = may.credit;
  fine = fine;
  offered = may.offered;
}
  where
    place : IsPlace setting w
    place = place_of setting asked good reached.events w reached.happen

    opened : (x : ℕ) → IsHonestGuard setting e h x → IsOpenAt setting.scope (w.nodes x) h
    opened x it = open_is setting.scope (w.nodes x) h (may.level.slot_open x it)

    going : IsGoing w e
    going = going_of w e (ended_told setting reached.events w reached.happen) may.level.goes_on
        (let behind = (place.follows.nodes g (no_olympus setting w place e h g guard)).behind in
        let now = may.level.epochs g guard in omega (arith, behind, now))

    fine : (x : ℕ) → IsHonestGuard setting e h x → IsReadyFor setting.scope e h slot content (w.nodes x)
    fine x it =
        let now = may.level.epochs x it in
        let at = may.level.slots x it in
        let reach = (opened x it).reached in record {
          stands = record {
            rises = omega (arith, now);
            here = λ in_it. record { lives = (opened x it).live.lives; above = omega (arith, reach, at); stands = inr (at, tt) };
          };
          known = λ in_it len.
              known_of setting x w.ledger (w.nodes x) h content (place.voted x (no_olympus setting w place e h x it)).sound (may.next x it);
          allowed = λ in_it len.
              may_take (setting.scope.credit e) slot ((w.nodes x).heads h) content
              (subst (λ n. allows (setting.scope.credit e) n ((w.nodes x).heads h) content ≡ true) at
              (subst (λ n. allows (setting.scope.credit n) (length_of (w.nodes x) h) ((w.nodes x).heads h) content ≡ true) now
              (may.allowed x it)));
        }

-- one exchange has each honest guard order it
pub orders_in_one : {S : Type 0} (setting : Setting S) → IsScenario setting → HasGoodGuards setting.scope
    → HasTags setting.scope
    → InEachWorld setting (OrdersInOne setting)
orders_in_one {S} setting asked good tags first w happen e h slot content carried may events next comes none some g guard = by after
  where
    start : IsOffering setting e h slot content w
    start = offering_of setting asked good tags w (record { events = first; happen = happen }) e h slot content carried may g guard

    one : HasExchange setting 0 w next
    one = split_at setting 0 w next events none comes some

    here : IsOffering setting e h slot content one.here
    here = offering_on setting e h slot content w one.here one.before one.no_wedge_before one.comes start

    there : IsOffering setting e h slot content one.there
    there = offering_on setting e h slot content one.here one.there (Exchange ∷ []) no_wedge (one_exchange setting one.here one.there one.exchange) here

    other : g ≢ olympus
    other = no_olympus setting one.there there.place e h g guard

    after : (slot < length_of (one.there.nodes g) h) ⊎ HasSaid one.there.ledger g Ordered e h slot content
    after = ordered_after setting e h slot content one.here one.there here there one.exchange g guard

    by : (slot < length_of (one.there.nodes g) h) ⊎ HasSaid one.there.ledger g Ordered e h slot content
        → (slot < length_of (next.nodes g) h) ⊎ HasSaid next.ledger g Ordered e h slot content
    by (inl past) =
        let entry = get_inside ((one.there.nodes g).logs h) slot past in
        inl (slice_get_within ((next.nodes g).logs h) slot entry.0 (entry_on setting h slot entry.0 g one.there next one.later other one.goes entry.1))
    by (inr made) = inr (made_on setting g g (said_in e (body_at Ordered h slot content)) one.there next one.later other one.goes made)

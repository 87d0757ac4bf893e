-- What one honest guard has logged by votes, two exchanges put into the log of each honest guard.
use Rattle.std.proofs.Common.{◌≡◌, ◌≢◌, ℕ, zero, suc, ◌+◌, ◌<◌, ◌≤◌, Bool, true, false, List, [], ◌∷◌, ◌++◌, length, ◌-◌, Some, Ok, Err, refl, ap, sym, subst, ◌∙◌, inl, inr, arith}
use Rattle.std.specs.Prelude.{cond, Option, Result, slice_get, sum_by}
use Rattle.std.proofs.lemmas.Option.{slice_get_within}
use Rattle.nys_agreement.specs.Alone.{Fits}
use Rattle.std.proofs.lemmas.List.Sums.{sum_by-append}
use Rattle.nys_agreement.proofs.ListLemmas.{get_inside, in_append, in_prefix}
use Rattle.nys_bytes.specs.declared.content.Content.{Content}
use Rattle.nys_rules.specs.declared.notice.End.{End}
use Rattle.nys_rules.specs.Events.{Plain}
use Rattle.nys_rules.specs.Events.Plain.{Ask, Bundle, Bytes, Decide, Deliver, Exchange, Flush, Input, Open, Retire, Say, Steal, Wedge}
use Rattle.nys_rules.specs.Exchanges.{exchanges_in, is_exchange, IsHonestGuard}
use Rattle.nys_rules.specs.Forged.{Entry, HasMade}
use Rattle.nys_rules.specs.Happening.{HappenAll, Happens, Then}
use Rattle.nys_rules.specs.Scope.{olympus}
use Rattle.nys_rules.specs.Sending.{said_in}
use Rattle.nys_rules.specs.Spelling.{HasLog}
use Rattle.nys_rules.specs.View.{length_of, View}
use Rattle.nys_rules.specs.World.{fresh_world, Setting, World}
use Rattle.nys_laws.specs.Vouched.{QuorumVouches}
use Rattle.nys_laws.proofs.EpochWorlds.{histories_go_on}
use Rattle.nys_laws.proofs.WorldKeeping.{StepsKeep, worlds_keep}
use Rattle.nys_follows.proofs.FeedingWorlds.{set_up_of}
use Rattle.nys_progress.specs.Carried.{HasTags, IsCarried}
use Rattle.nys_progress.specs.Relay.{HasNoWedge}
use Rattle.nys_progress.specs.Statements.{deliver}
use Rattle.nys_progress.proofs.EndedEpochs.{goes_quietly, IsGoing}
use Rattle.nys_progress.proofs.Exchanging.{IsGoingOn}
use Rattle.nys_progress.proofs.LoggedHere.{honest_voter, IsPlace, logged_here, no_olympus, place_of}
use Rattle.nys_progress.proofs.MarkedDesks.{entry_steps, IsHere, stands_steps, StandsIn}
use Rattle.nys_progress.proofs.TakenVotes.{in_epoch, NoMark, none_kept}

-- ---- worlds that events reach

-- events lead to the world from the first one
pub record IsReached {S : Type 0} (setting : Setting S) (w : World) : Type 0 where
  pub events : List Plain
  pub happen : HappenAll setting (fresh_world setting) events (Ok w)

-- events, and then others
pub happen_then : {S : Type 0} (setting : Setting S) (w mid : World) (events more : List Plain) (result : Result World End)
    → HappenAll setting w events (Ok mid) → HappenAll setting mid more result
    → HappenAll setting w (events ++ more) result
happen_then setting w mid [] more result first rest =
    let same : mid ≡ w = cc in subst (λ x. HappenAll setting x more result) same rest
happen_then {S} setting w mid (event ∷ events) more result first rest = by first.0 first.1 first.2
    (λ next later. happen_then setting next mid events more result later rest)
  where
    by : (x : Result World End) → Happens setting w event x
        → Then x (Ok mid) (λ next. HappenAll setting next events (Ok mid))
        → ((next : World) → HappenAll setting next events (Ok mid) → HappenAll setting next (events ++ more) result)
        → HappenAll setting w (event ∷ events ++ more) result
    by (Err end) happens later on = absurd (cc)
    by (Ok next) happens later on = (Ok next, happens, on next later)

-- events that go on, parted in two
pub happen_apart : {S : Type 0} (setting : Setting S) (w next : World) (events more : List Plain)
    → HappenAll setting w (events ++ more) (Ok next)
    → (mid : World) × HappenAll setting w events (Ok mid) × HappenAll setting mid more (Ok next)
happen_apart setting w next [] more happen = (w, refl, happen)
happen_apart {S} setting w next (event ∷ events) more happen = by happen.0 happen.1 happen.2
    (λ x later. happen_apart setting x next events more later)
  where
    Apart : World → Type 0
    Apart x = (mid : World) × HappenAll setting x events (Ok mid) × HappenAll setting mid more (Ok next)

    by : (x : Result World End) → Happens setting w event x → Then x (Ok next) (λ y. HappenAll setting y (events ++ more) (Ok next))
        → ((y : World) → HappenAll setting y (events ++ more) (Ok next) → Apart y)
        → (mid : World) × HappenAll setting w (event ∷ events) (Ok mid) × HappenAll setting mid more (Ok next)
    by (Err end) happens later on = absurd (cc)
    by (Ok y) happens later on = let rest = on y later in (rest.0, (Ok y, happens, rest.1), rest.2)

-- reached still
pub reached_on : {S : Type 0} (setting : Setting S) (w next : World) (events : List Plain)
    → IsReached setting w
    → HappenAll setting w events (Ok next) → IsReached setting next
reached_on setting w next events r happen =
    record { events = r.events ++ events; happen = happen_then setting (fresh_world setting) w r.events events (Ok next) r.happen happen }

-- the first exchange among events: what comes before it, and what is left
pub record HasExchange {S : Type 0} (setting : Setting S) (n : ℕ) (w next : World) : Type 0 where
  pub before : List Plain
  pub later : List Plain
  pub here : World
  pub there : World
  pub comes : HappenAll setting w before (Ok here)
  pub exchange : Happens setting here Exchange (Ok there)
  pub goes : HappenAll setting there later (Ok next)
  pub left : n ≤ exchanges_in later
  pub no_wedge_before : HasNoWedge before
  pub no_wedge_later : HasNoWedge later

-- no wedge is among the rest of events without one
rest_quiet : (event : Plain) (events : List Plain) → HasNoWedge (event ∷ events) → HasNoWedge events
rest_quiet event events none among = none (suc among.0, omega (arith, among.1), among.2)

-- an exchange is no wedge
pub no_wedge : HasNoWedge (Exchange ∷ [])
no_wedge (zero, lt, at) = cc
no_wedge (suc n, lt, at) = omega (arith, lt)

-- no wedge is among no events
none_quiet : HasNoWedge []
none_quiet among = omega (arith, among.1)

-- a first event that is no wedge
first_quiet : (event : Plain) (rest events : List Plain) → HasNoWedge (event ∷ rest) → HasNoWedge events
    → HasNoWedge (event ∷ events)
first_quiet event rest events none more (zero, lt, at) = none (zero, omega arith, at)
first_quiet event rest events none more (suc n, lt, at) = more (n, omega (arith, lt), at)

-- how many exchanges there are with one event more
one_event : (event : Plain) (events : List Plain)
    → exchanges_in (event ∷ events) ≡ exchanges_in events + cond (is_exchange event) 1 0
one_event event events =
    let both = sum_by-append (λ (e : Plain). cond (is_exchange e) 1 0) (event ∷ []) events in
    let first : ◌≡◌ {A = ℕ} (sum_by (λ (e : Plain). cond (is_exchange e) 1 0) (event ∷ [])) (cond (is_exchange event) 1 0) = by (is_exchange event) in
    omega (arith, both, first)
  where
    by : (b : Bool) → 0 + cond b 1 0 ≡ cond b 1 0
    by true = refl
    by false = refl

-- only an exchange is one
exchange_is : (event : Plain) → is_exchange event ≡ true → event ≡ Exchange
exchange_is Exchange is = refl
exchange_is (Input h payload) is = absurd (cc)
exchange_is (Deliver k) is = absurd (cc)
exchange_is Flush is = absurd (cc)
exchange_is (Ask h) is = absurd (cc)
exchange_is (Bytes to frame) is = absurd (cc)
exchange_is (Say a to statement) is = absurd (cc)
exchange_is (Bundle a to packets) is = absurd (cc)
exchange_is (Steal a to statement) is = absurd (cc)
exchange_is Wedge is = absurd (cc)
exchange_is (Decide h) is = absurd (cc)
exchange_is (Retire h) is = absurd (cc)
exchange_is Open is = absurd (cc)

-- where there is one more exchange there is a first
pub split_at : {S : Type 0} (setting : Setting S) (n : ℕ) (w next : World) (events : List Plain)
    → HasNoWedge events
    → HappenAll setting w events (Ok next) → suc n ≤ exchanges_in events → HasExchange setting n w next
split_at setting n w next [] none happen many = absurd (omega (arith, many))
split_at {S} setting n w next (event ∷ events) none happen many =
    by happen.0 happen.1 happen.2
    (λ mid rest more. split_at setting n mid next events (rest_quiet event events none) rest more)
  where
    behind : (mid : World) → Happens setting w event (Ok mid) → HasExchange setting n mid next
        → HasExchange setting n w next
    behind mid happens x = record {
      before = event ∷ x.before;
      later = x.later;
      here = x.here;
      there = x.there;
      comes = (Ok mid, happens, x.comes);
      exchange = x.exchange;
      goes = x.goes;
      left = x.left;
      no_wedge_before = first_quiet event events x.before none x.no_wedge_before;
      no_wedge_later = x.no_wedge_later;
    }

    by_kind : (b : Bool) → is_exchange event ≡ b → (mid : World) → Happens setting w event (Ok mid)
        → HappenAll setting mid events (Ok next)
        → ((x : World) → HappenAll setting x events (Ok next) → suc n ≤ exchanges_in events → HasExchange setting n x next)
        → HasExchange setting n w next
    by_kind false is mid happens rest later =
        let one = one_event event events in
        let none_here : ◌≡◌ {A = ℕ} (cond (is_exchange event) 1 0) 0 = ap (λ (b : Bool). cond b 1 0) is in
        behind mid happens (later mid rest (omega (arith, many, one, none_here)))
    by_kind true is mid happens rest later =
        let one = one_event event events in
        let one_here : ◌≡◌ {A = ℕ} (cond (is_exchange event) 1 0) 1 = ap (λ (b : Bool). cond b 1 0) is in
        record {
          before = [];
          later = events;
          here = w;
          there = mid;
          comes = refl;
          exchange = subst (λ e. Happens setting w e (Ok mid)) (exchange_is event is) happens;
          goes = rest;
          left = omega (arith, many, one, one_here);
          no_wedge_before = none_quiet;
          no_wedge_later = rest_quiet event events none;
        }

    by : (mid : Result World End) → Happens setting w event mid
        → Then mid (Ok next) (λ x. HappenAll setting x events (Ok next))
        → ((x : World) → HappenAll setting x events (Ok next) → suc n ≤ exchanges_in events → HasExchange setting n x next)
        → HasExchange setting n w next
    by (Err end) happens rest later = absurd (cc)
    by (Ok mid) happens rest later = by_kind (is_exchange event) refl mid happens rest later

-- ---- what stays from a world on in which a content may be relayed

-- where all honest guards of h are, and that the epoch goes on
pub record IsStanding {S : Type 0} (setting : Setting S) (e h slot : ℕ) (content : Content) (w : World) : Type 0 where
  pub reached : IsReached setting w
  pub place : IsPlace setting w
  pub going : IsGoing w e
  pub host : h < setting.scope.rules.hosts
  pub epoch : e < setting.scope.epochs
  pub room : slot < 1024
  pub tags : HasTags setting.scope
  pub carried : IsCarried content
  pub here : (g : ℕ) → IsHonestGuard setting e h g → StandsIn e h slot NoMark (w.nodes g)

-- a content that one honest guard has logged by votes of the epoch
pub record IsRelaying {S : Type 0} (setting : Setting S) (e h slot : ℕ) (content : Content) (w : World) : Type 0 where
  pub stands : IsStanding setting e h slot content w
  pub logger : ℕ
  pub logs : IsHonestGuard setting e h logger
  pub entry : slice_get ((w.nodes logger).logs h) slot ≡ Some content

-- a content that alone is voted for in the slot: who is past it voted for it, and it fits the logs of the others
pub record IsVoting {S : Type 0} (setting : Setting S) (e h slot : ℕ) (content : Content) (w : World) : Type 0 where
  pub stands : IsStanding setting e h slot content w
  pub one : (g : ℕ) (other : Content) → HasMade w.ledger g (said_in e (deliver h slot other)) → other ≡ content
  pub past : (g : ℕ) → IsHonestGuard setting e h g → slot < length_of (w.nodes g) h
      → HasMade w.ledger g (said_in e (deliver h slot content))
  pub fits : (g : ℕ) → IsHonestGuard setting e h g → length_of (w.nodes g) h ≡ slot
      → Fits setting.scope.rules h ((w.nodes g).logs h) content

-- a fact of one node, whatever happens
pub node_on : {S : Type 0} (setting : Setting S) (g : ℕ) (Fact : ℕ → List Entry → View → Type 0)
    → StepsKeep setting (λ x ledger v. x ≡ g → Fact x ledger v)
    → (w next : World) (events : List Plain) → HappenAll setting w events (Ok next) → g ≢ olympus
    → Fact g w.ledger (w.nodes g)
    → Fact g next.ledger (next.nodes g)
node_on setting g Fact keep w next events happen other f =
    worlds_keep setting (λ x ledger v. x ≡ g → Fact x ledger v) keep w next events happen
    (λ x ne same. subst (λ y. Fact y w.ledger (w.nodes y)) (sym same) f) g other refl

-- an entry stays
pub entry_on : {S : Type 0} (setting : Setting S) (h slot : ℕ) (content : Content) (g : ℕ) (w next : World) (events : List Plain)
    → g ≢ olympus
    → HappenAll setting w events (Ok next) → slice_get ((w.nodes g).logs h) slot ≡ Some content
    → slice_get ((next.nodes g).logs h) slot ≡ Some content
entry_on setting h slot content g w next events other happen get =
    node_on setting g (λ x ledger v. slice_get (v.logs h) slot ≡ Some content) (entry_steps setting g h slot content) w next events happen other get

-- guards stand so over events without a wedge
pub standing_on : {S : Type 0} (setting : Setting S) (e h slot : ℕ) (content : Content) (w next : World) (events : List Plain)
    → HasNoWedge events → HappenAll setting w events (Ok next) → IsStanding setting e h slot content w
    → IsStanding setting e h slot content next
standing_on setting e h slot content w next events none happen r =
    let reached = reached_on setting w next events r.reached happen in
    let goes = histories_go_on setting (set_up_of setting r.place.asked) events w next r.place.history happen r.place.follows in
    record {
      reached = reached;
      place = place_of setting r.place.asked r.place.good reached.events next reached.happen;
      going = goes_quietly setting w next events e none happen goes.rises r.going;
      host = r.host;
      epoch = r.epoch;
      room = r.room;
      tags = r.tags;
      carried = r.carried;
      here = λ g guard. node_on setting g (λ x ledger v. StandsIn e h slot NoMark v) (stands_steps setting g e h slot NoMark none_kept) w next events
          happen (no_olympus setting w r.place e h g guard) (r.here g guard);
    }

-- and the content is relayed
pub relaying_on : {S : Type 0} (setting : Setting S) (e h slot : ℕ) (content : Content) (w next : World) (events : List Plain)
    → HasNoWedge events → HappenAll setting w events (Ok next) → IsRelaying setting e h slot content w
    → IsRelaying setting e h slot content next
relaying_on setting e h slot content w next events none happen r = record {
  stands = standing_on setting e h slot content w next events none happen r.stands;
  logger = r.logger;
  logs = r.logs;
  entry = entry_on setting h slot content r.logger w next events (no_olympus setting w r.stands.place e h r.logger r.logs) happen r.entry;
}

-- ---- honest guards

-- what goes on
pub on_of : {S : Type 0} (setting : Setting S) (e h slot : ℕ) (content : Content) (w : World)
    → IsStanding setting e h slot content w
    → IsGoingOn setting e w
on_of setting e h slot content w r = record { history = r.place.history; follows = r.place.follows; going = r.going }

-- an honest guard is in the epoch
pub now_of : {S : Type 0} (setting : Setting S) (e h slot : ℕ) (content : Content) (w : World) (r : IsStanding setting e h slot content w) (g : ℕ)
    → IsHonestGuard setting e h g → (w.nodes g).epoch ≡ e
now_of setting e h slot content w r g guard =
    in_epoch setting e g w (on_of setting e h slot content w r) (no_olympus setting w r.place e h g guard) (r.here g guard).rises

-- as that began
pub here_of : {S : Type 0} (setting : Setting S) (e h slot : ℕ) (content : Content) (w : World) (r : IsStanding setting e h slot content w) (g : ℕ)
    → IsHonestGuard setting e h g → IsHere h slot NoMark (w.nodes g)
here_of setting e h slot content w r g guard = (r.here g guard).here (now_of setting e h slot content w r g guard)

-- its node is its own
pub me_of : {S : Type 0} (setting : Setting S) (e h slot : ℕ) (content : Content) (w : World) (r : IsStanding setting e h slot content w) (g : ℕ)
    → IsHonestGuard setting e h g → (w.nodes g).me ≡ g
me_of setting e h slot content w r g guard = (r.place.voted g (no_olympus setting w r.place e h g guard)).sound.own.host

-- it guards h there
pub guards_here : {S : Type 0} (setting : Setting S) (e h slot : ℕ) (content : Content) (w : World) (r : IsStanding setting e h slot content w) (g : ℕ)
    → IsHonestGuard setting e h g → setting.scope.guards (w.nodes g).epoch h (w.nodes g).me ≡ true
guards_here setting e h slot content w r g guard =
    subst (λ n. setting.scope.guards n h (w.nodes g).me ≡ true) (sym (now_of setting e h slot content w r g guard))
    (subst (λ x. setting.scope.guards e h x ≡ true) (sym (me_of setting e h slot content w r g guard)) guard.guards)

-- it has a log of h
pub log_of : {S : Type 0} (setting : Setting S) (e h slot : ℕ) (content : Content) (w : World) (r : IsStanding setting e h slot content w) (g : ℕ)
    → IsHonestGuard setting e h g → HasLog setting w g h
log_of setting e h slot content w r g guard = record {
  host = guard.host;
  honest = guard.honest;
  known = (r.place.knows g (no_olympus setting w r.place e h g guard)).guarded h r.host (guards_here setting e h slot content w r g guard);
}

-- an entry there is the content
pub same_entry : {S : Type 0} (setting : Setting S) (e h slot : ℕ) (content : Content) (w : World) (r : IsRelaying setting e h slot content w) (g : ℕ)
    → IsHonestGuard setting e h g → slot < length_of (w.nodes g) h
    → slice_get ((w.nodes g).logs h) slot ≡ Some content
same_entry setting e h slot content w r g guard past =
    let mine = get_inside ((w.nodes g).logs h) slot past in
    elim (r.stands.place.promised.agree.nodes g r.logger h (log_of setting e h slot content w r.stands g guard) (log_of setting e h slot content w r.stands r.logger r.logs)) [
      | inl first ↦
          let both = sym (in_prefix ((w.nodes g).logs h) ((w.nodes r.logger).logs h) first slot mine.0 mine.1) ∙ r.entry in
          let same : mine.0 ≡ content = cc in subst (λ c. slice_get ((w.nodes g).logs h) slot ≡ Some c) same mine.1
      | inr other ↦ in_prefix ((w.nodes r.logger).logs h) ((w.nodes g).logs h) other slot content r.entry
    ]

-- a quorum voted for the content in the epoch
pub quorum_of : {S : Type 0} (setting : Setting S) (e h slot : ℕ) (content : Content) (w : World)
    → IsRelaying setting e h slot content w
    → QuorumVouches setting w.ledger e h (deliver h slot content)
quorum_of setting e h slot content w r =
    (logged_here setting w r.stands.place e h r.logger r.stands.going r.stands.host r.logs (now_of setting e h slot content w r.stands r.logger r.logs)
    (here_of setting e h slot content w r.stands r.logger r.logs).lives slot content (here_of setting e h slot content w r.stands r.logger r.logs).above r.entry).0

-- a guard that is past the slot voted for it
pub past_voted : {S : Type 0} (setting : Setting S) (e h slot : ℕ) (content : Content) (w : World) (r : IsRelaying setting e h slot content w) (g : ℕ)
    → IsHonestGuard setting e h g → slot < length_of (w.nodes g) h
    → HasMade w.ledger g (said_in e (deliver h slot content))
past_voted setting e h slot content w r g guard past =
    (logged_here setting w r.stands.place e h g r.stands.going r.stands.host guard (now_of setting e h slot content w r.stands g guard)
    (here_of setting e h slot content w r.stands g guard).lives slot content (here_of setting e h slot content w r.stands g guard).above
    (same_entry setting e h slot content w r g guard past)).1

-- a Deliver for the slot is for the content
pub one_voted : {S : Type 0} (setting : Setting S) (e h slot : ℕ) (content : Content) (w : World) (r : IsRelaying setting e h slot content w) (g : ℕ)
    (other : Content) → HasMade w.ledger g (said_in e (deliver h slot other)) → other ≡ content
one_voted setting e h slot content w r g other has =
    let one = honest_voter setting w r.stands.place e h r.logger slot content r.logs (quorum_of setting e h slot content w r) in
    r.stands.place.promised.one_content g one.0 e h slot other content has one.1

-- what stands behind a log's prefix
behind_prefix : (xs rest : List Content) (c : Content) → slice_get (xs ++ rest) (length xs) ≡ Some c
    → (more : List Content) × (rest ≡ c ∷ more)
behind_prefix xs [] c get = absurd
    (elim (in_append xs [] (length xs) c get) [
      | inl old ↦ let low = slice_get_within xs (length xs) c old in omega (arith, low)
      | inr new ↦ let low = slice_get_within [] (length xs - length xs) c new.1 in omega (arith, low)
    ])
behind_prefix xs (d ∷ rest) c get =
    elim (in_append xs (d ∷ rest) (length xs) c get) [
      | inl old ↦ absurd (let low = slice_get_within xs (length xs) c old in omega (arith, low))
      | inr new ↦
          let zero_place : length xs - length xs ≡ 0 = omega arith in
          let first : ◌≡◌ {A = Option Content} (Some d) (Some c) = sym (ap (slice_get (d ∷ rest)) zero_place) ∙ new.1 in
          let same : d ≡ c = cc in
          (rest, ap (λ x. x ∷ rest) same)
    ]

-- so does the content that another guard has there
fits_here : {S : Type 0} (setting : Setting S) (e h slot : ℕ) (content : Content) (w : World) (r : IsRelaying setting e h slot content w) (g : ℕ)
    → IsHonestGuard setting e h g → length_of (w.nodes g) h ≡ slot
    → Fits setting.scope.rules h ((w.nodes g).logs h) content
fits_here setting e h slot content w r g guard at =
    elim (r.stands.place.promised.agree.nodes g r.logger h (log_of setting e h slot content w r.stands g guard) (log_of setting e h slot content w r.stands r.logger r.logs)) [
      | inl first ↦
          let mine = (w.nodes g).logs h in
          let get : slice_get (mine ++ first.0) (length mine) ≡ Some content =
          subst (λ n. slice_get (mine ++ first.0) n ≡ Some content) (sym at)
          (subst (λ l. slice_get l slot ≡ Some content) (sym first.1) r.entry) in
          let more = behind_prefix mine first.0 content get in
          (r.stands.place.voted r.logger (no_olympus setting w r.stands.place e h r.logger r.logs)).sound.rests.logs h mine more.0 content
          (sym first.1 ∙ ap (λ l. mine ++ l) more.1)
      | inr other ↦ absurd
          (let low = slice_get_within ((w.nodes g).logs h) slot content
          (in_prefix ((w.nodes r.logger).logs h) ((w.nodes g).logs h) other slot content r.entry) in
          omega (arith, low, at))
    ]

-- so the content is the one that is voted for
pub voting_of : {S : Type 0} (setting : Setting S) (e h slot : ℕ) (content : Content) (w : World)
    → IsRelaying setting e h slot content w → IsVoting setting e h slot content w
voting_of setting e h slot content w r = record {
  stands = r.stands;
  one = λ g other has. one_voted setting e h slot content w r g other has;
  past = λ g guard past. past_voted setting e h slot content w r g guard past;
  fits = λ g guard at. fits_here setting e h slot content w r g guard at;
}

-- The two stages of the relay: after one exchange each honest guard has voted, after the next it has logged.
use Rattle.std.proofs.Common.{◌≡◌, ◌≢◌, ℕ, ◌+◌, ◌*◌, ◌<◌, ◌≤◌, ◌==◌, ◌&&◌, Bool, true, false, List, [], ◌∷◌, length, Some, None, Ok, Err, refl, ap, sym, subst, ◌∙◌, inl, inr, arith, lt-ltb}
use Rattle.std.specs.Prelude.{if◌then◌else◌, is_some, not, Option, Result, slice_get}
use Rattle.std.specs.Option.{option_or}
use Rattle.std.proofs.lemmas.Bool.{cases_eq}
use Rattle.std.proofs.lemmas.Bool.Decides.{Decides-eqb}
use Rattle.nys_agreement.specs.Alone.{Fits}
use Rattle.nys_bytes.specs.declared.content.Content.{Content}
use Rattle.nys_bytes.specs.declared.content.Content.TheVariants.{External, Message}
use Rattle.nys_hosts.proofs.CountLemmas.{AtLeast-fewer}
use Rattle.nys_hosts.proofs.QuorumLemmas.{AtLeast-honest, honest_are_a_quorum, honest_of_quorum}
use Rattle.nys_hosts.specs.Counts.{AtLeast, hosts_with}
use Rattle.nys_votes.proofs.TallyLemmas.{votes_found, votes_stand}
use Rattle.nys_votes.specs.Delivered.{backed, delivered, voted_by}
use Rattle.nys_votes.specs.Meaning.{VotedFor}
use Rattle.nys_votes.specs.Seats.{seat_of}
use Rattle.nys_votes.specs.declared.vote.Vote.{Vote}
use Rattle.nys_stmt.specs.declared.statement.Statement.{Statement}
use Rattle.nys_rules.specs.declared.notice.End.{End}
use Rattle.nys_rules.specs.Events.{Plain}
use Rattle.nys_rules.specs.Events.Plain.{Exchange}
use Rattle.nys_rules.specs.Exchanges.{IsHonestGuard}
use Rattle.nys_rules.specs.Forged.{Entry, HasMade}
use Rattle.nys_rules.specs.Happening.{counted, Delivers, Does, HappenAll, Happens, honest_packets}
use Rattle.nys_rules.specs.Logging.{fits}
use Rattle.nys_rules.specs.Rules.{only_if, ordered_content, passing_only, to_log}
use Rattle.nys_rules.specs.Scope.{olympus, quorum_at, Scope}
use Rattle.nys_rules.specs.Sending.{said_in}
use Rattle.nys_rules.specs.View.{is_open, length_of, next_number, replica_of, View}
use Rattle.nys_rules.specs.World.{Setting, World}
use Rattle.nys_rules.proofs.CertificateLemmas.{both_true}
use Rattle.nys_rules.proofs.DueLemmas.{quiet_deliver, quiet_log}
use Rattle.nys_laws.specs.Own.Stage.{Delivered}
use Rattle.nys_laws.specs.Rests.{IsSound}
use Rattle.nys_laws.specs.Vouched.{IsVouched}
use Rattle.nys_laws.proofs.LedgerLemmas.{made_before}
use Rattle.nys_laws.proofs.LiveLemmas.{honest_guard, not_true}
use Rattle.nys_laws.proofs.WorldKeeping.{HoldsOfNodes, StepsKeep, worlds_keep}
use Rattle.nys_follows.proofs.FeedingWorlds.{few_liars_of, hosts_of_scenario, set_up_of}
use Rattle.nys_progress.specs.Sent.{telling}
use Rattle.nys_progress.specs.Statements.{deliver}
use Rattle.nys_progress.proofs.Exchanging.{deliver_going, deliver_nodes, IsGoingOn, packet_given, place_in, taken_among}
use Rattle.nys_progress.proofs.LoggedHere.{no_olympus}
use Rattle.nys_progress.proofs.MarkedDesks.{HasVote, keep_votes, KeepsVotes, Stands, stands_steps, StandsAt, StandsIn, vote_kept, vote_steps}
use Rattle.nys_progress.proofs.ReadRecords.{IsTold}
use Rattle.nys_progress.proofs.RelayWorlds.{guards_here, here_of, IsRelaying, IsStanding, IsVoting, now_of, on_of, quorum_of}
use Rattle.nys_progress.proofs.TakenVotes.{IsVoteFor, live_by, NoMark, none_kept, not_wedged, open_by, vote_taken}
use Rattle.nys_progress.proofs.VotedEntries.{enabled_deliver, many_guards, some_either}

-- ---- what was made stays

-- a party made the statement
abbrev pub Made : (m : ℕ) → Statement → ℕ → List Entry → View → Type 0
Made m s g ledger v = HasMade ledger m s

-- whatever nodes do
pub made_steps : {S : Type 0} (setting : Setting S) (m : ℕ) (s : Statement) → StepsKeep setting (Made m s)
made_steps setting m s = record {
  beside = λ party made g ledger v ne has. made_before party made ledger m s has;
  rules = λ g ledger v rule is has. made_before g _ ledger m s has;
  records = λ g ledger v r read is makers has. made_before g _ ledger m s has;
  inputs = λ g ledger v payload has. has;
  asking = λ g ledger v has. made_before g _ ledger m s has;
}

-- after events
pub made_on : {S : Type 0} (setting : Setting S) (g m : ℕ) (s : Statement) (w next : World) (events : List Plain)
    → g ≢ olympus
    → HappenAll setting w events (Ok next) → HasMade w.ledger m s → HasMade next.ledger m s
made_on setting g m s w next events other happen has =
    worlds_keep setting (Made m s) (made_steps setting m s) w next events happen (λ x ne. has) g other

-- an exchange is a list of events
pub one_exchange : {S : Type 0} (setting : Setting S) (w next : World)
    → Happens setting w Exchange (Ok next)
    → HappenAll setting w (Exchange ∷ []) (Ok next)
one_exchange setting w next happens = (Ok next, happens, refl)

-- ---- a vote that an exchange brings

-- what each packet of an exchange keeps
record Reads {S : Type 0} (setting : Setting S) (e h slot g : ℕ) (w : World) : Type 0 where
  on : IsGoingOn setting e w
  votes : HoldsOfNodes (KeepsVotes setting) w
  here : HoldsOfNodes (StandsAt g e h slot NoMark) w

-- an honest guard that voted is heard by each other honest guard
pub vote_exchanged : {S : Type 0} (setting : Setting S) (e h slot : ℕ) (content : Content) (w next : World) (r : IsStanding setting e h slot content w)
    → Happens setting w Exchange (Ok next) → (m g : ℕ) → IsHonestGuard setting e h m
    → IsHonestGuard setting e h g → m ≢ g
    → HasMade w.ledger m (said_in e (deliver h slot content)) → StandsIn e h slot (HasVote m) (next.nodes g)
vote_exchanged {S} setting e h slot content w next r happens m g maker guard ne has = by happens.mid happens.does happens.result_is
  where
    other : g ≢ olympus
    other = no_olympus setting w r.place e h g guard

    told : IsTold setting.scope Delivered e h slot content m g
    told = record {
      hosts = hosts_of_scenario setting r.place.asked;
      tags = r.tags;
      carried = r.carried;
      epoch = r.epoch;
      host = r.host;
      room = r.room;
      maker = maker.host;
      taker = guard.guards;
      other = ne;
    }

    vote : IsVoteFor setting e h slot content m g
    vote = record { told = told; guards = maker.guards; honest = guard.honest; taker = other }

    sent : (k : ℕ) × (slice_get w.pool k ≡ Some (telling setting.scope m Delivered e h slot content g))
    sent = place_in w.pool (telling setting.scope m Delivered e h slot content g)
        (r.place.sent m maker.honest (no_olympus setting w r.place e h m maker) Delivered e h slot content has g guard.guards
        (λ same. ne (sym same)))

    first : Reads setting e h slot g w
    first = record {
      on = on_of setting e h slot content w r;
      votes = keep_votes setting (hosts_of_scenario setting r.place.asked) r.reached.events w r.reached.happen;
      here = λ x not_top same. subst (λ y. StandsIn e h slot NoMark (w.nodes y)) (sym same) (r.here g guard);
    }

    ready : (x y : World) (n : ℕ) → Delivers setting x n (Ok y) → Reads setting e h slot g x
        → Reads setting e h slot g y
    ready x y n d k = record {
      on = deliver_going setting (set_up_of setting r.place.asked) e x y n d k.on;
      votes = deliver_nodes setting (KeepsVotes setting) (vote_steps setting (hosts_of_scenario setting r.place.asked)) x y n d k.votes;
      here = deliver_nodes setting (StandsAt g e h slot NoMark) (stands_steps setting g e h slot NoMark none_kept) x y n d k.here;
    }

    Marked : World → Type 0
    Marked x = HoldsOfNodes (StandsAt g e h slot (HasVote m)) x

    marked : (x y : World) (n : ℕ) → Delivers setting x n (Ok y) → Marked x → Marked y
    marked x y n d k =
        deliver_nodes setting (StandsAt g e h slot (HasVote m)) (stands_steps setting g e h slot (HasVote m) (vote_kept m)) x y n d k

    brings : (x y : World) → Delivers setting x sent.0 (Ok y)
        → slice_get x.pool sent.0 ≡ Some (telling setting.scope m Delivered e h slot content g)
        → Reads setting e h slot g x → Marked y
    brings x y d get k z not_top same =
        subst (λ a. StandsIn e h slot (HasVote m) (y.nodes a)) (sym same)
        (vote_taken setting e h slot content m g x y sent.0 vote
        (record { on = k.on; votes = k.votes g other; here = k.here g other refl }) d get)

    by : (mid : Result World End) → Does setting w Exchange mid → Ok next ≡ counted mid
        → StandsIn e h slot (HasVote m) (next.nodes g)
    by (Err end) does is = absurd (cc)
    by (Ok after) does is =
        let same : next ≡ record after { events = after.events + 1 } = cc in
        let all = taken_among setting (Reads setting e h slot g) Marked sent.0 (telling setting.scope m Delivered e h slot content g)
        ready marked brings w after (honest_packets setting w) does
        (packet_given setting w sent.0 (telling setting.scope m Delivered e h slot content g) sent.1 maker.honest guard.honest) sent.1 first in
        subst (λ (x : World). StandsIn e h slot (HasVote m) (x.nodes g)) (sym same) (all g other refl)

-- ---- what a guard at the slot knows

-- what its node keeps is sound
pub sound_of : {S : Type 0} (setting : Setting S) (e h slot : ℕ) (content : Content) (w : World) (r : IsStanding setting e h slot content w) (g : ℕ)
    → IsHonestGuard setting e h g → IsSound setting g w.ledger (w.nodes g)
sound_of setting e h slot content w r g guard = (r.place.voted g (no_olympus setting w r.place e h g guard)).sound

-- a guard that doesn't lie is an honest one
pub honest_of : {S : Type 0} (setting : Setting S) (e h slot : ℕ) (content : Content) (w : World) (r : IsStanding setting e h slot content w) (m : ℕ)
    → setting.scope.guards e h m ≡ true → setting.liars m ≡ false → IsHonestGuard setting e h m
honest_of setting e h slot content w r m guards honest = record {
  host = (r.place.asked.guards e h m guards).guard;
  honest = honest_guard setting (hosts_of_scenario setting r.place.asked) e h m guards honest;
  guards = guards;
}

-- what it keeps of the vote of an honest guard is for the content
vote_content : {S : Type 0} (setting : Setting S) (e h slot : ℕ) (content : Content) (w : World) (r : IsVoting setting e h slot content w) (g : ℕ)
    → IsHonestGuard setting e h g → length_of (w.nodes g) h ≡ slot → (m : ℕ) → IsHonestGuard setting e h m
    → (vote : Vote) → seat_of ((w.nodes g).desks h).votes m ≡ Some vote → vote.content ≡ content
vote_content setting e h slot content w r g guard at m maker vote get =
    let low = maker.host in let few = r.stands.place.asked.hosts in
    let said = ((sound_of setting e h slot content w r.stands g guard).hears.desks h).votes m vote get (omega (arith, low, few)) maker.honest in
    let here = subst (λ n. HasMade w.ledger m (said_in n (deliver h slot vote.content))) (now_of setting e h slot content w r.stands g guard)
    (subst (λ n. HasMade w.ledger m (said_in (w.nodes g).epoch (deliver h n vote.content))) at said) in
    r.one m vote.content here

-- so its vote is one for the content
vote_is : {S : Type 0} (setting : Setting S) (e h slot : ℕ) (content : Content) (w : World) (r : IsVoting setting e h slot content w) (g : ℕ)
    → IsHonestGuard setting e h g → length_of (w.nodes g) h ≡ slot → (m : ℕ) → IsHonestGuard setting e h m
    → HasVote m ((w.nodes g).desks h) → VotedFor content ((w.nodes g).desks h).votes m
vote_is setting e h slot content w r g guard at m maker has =
    (has.0, has.1, vote_content setting e h slot content w r g guard at m maker has.0 has.1)

-- the slot is open at it
pub opened_at : {S : Type 0} (setting : Setting S) (e h slot : ℕ) (content : Content) (w : World) (r : IsStanding setting e h slot content w) (g : ℕ)
    → IsHonestGuard setting e h g → length_of (w.nodes g) h ≡ slot
    → is_open setting.scope (w.nodes g) h ≡ true
opened_at setting e h slot content w r g guard at =
    let here = here_of setting e h slot content w r g guard in
    let above = here.above in let room = r.room in
    open_by setting.scope (w.nodes g) h
    (live_by setting.scope (w.nodes g) h r.host (guards_here setting e h slot content w r g guard) here.lives)
    (not_wedged setting e g w (on_of setting e h slot content w r) (no_olympus setting w r.place e h g guard) (now_of setting e h slot content w r g guard))
    (omega (arith, above, at)) (omega (arith, room, at))

-- h is one of 32
pub low_host : {S : Type 0} (setting : Setting S) (e h slot : ℕ) (content : Content) (w : World)
    → IsStanding setting e h slot content w → h < 32
low_host setting e h slot content w r = let low = r.host in let few = r.place.asked.hosts in omega (arith, low, few)

-- its guards are many
pub many_of : {S : Type 0} (setting : Setting S) (e h slot : ℕ) (content : Content) (w : World)
    → IsStanding setting e h slot content w
    → 3 * setting.scope.t e h + 1 ≤ hosts_with (setting.scope.guards e h)
many_of setting e h slot content w r = (r.place.good e r.epoch).many h r.host

-- ---- stage one

-- where more guards than may lie voted for the content by what it keeps, it voted
must_vote : {S : Type 0} (setting : Setting S) (e h slot : ℕ) (content : Content) (w : World) (r : IsStanding setting e h slot content w) (g : ℕ)
    → IsHonestGuard setting e h g → length_of (w.nodes g) h ≡ slot → ((w.nodes g).desks h).delivered ≡ None
    → AtLeast (setting.scope.t e h + 1) (VotedFor content ((w.nodes g).desks h).votes) → ⊥
must_vote {S} setting e h slot content w r g guard at none votes =
    let no = sym (quiet_deliver setting.scope v h (r.place.quiet g) (low_host setting e h slot content w r))
    ∙ enabled_deliver setting.scope v h one.0 (opened_at setting e h slot content w r g guard at) none one.1 in
    cc
  where
    v : View
    v = w.nodes g

    found : is_some (backed (setting.scope.t v.epoch h) (v.desks h).votes) ≡ true
    found = votes_found content (v.desks h).votes (setting.scope.t v.epoch h + 1)
        ((sound_of setting e h slot content w r g guard).seats.desks h).votes (omega arith)
        (subst (λ n. AtLeast (setting.scope.t n h + 1) (VotedFor content (v.desks h).votes)) (sym (now_of setting e h slot content w r g guard)) votes)

    one : (x : Content) × (option_or (ordered_content setting.scope v h) (backed (setting.scope.t v.epoch h) (v.desks h).votes) ≡ Some x)
    one = some_either (ordered_content setting.scope v h) (backed (setting.scope.t v.epoch h) (v.desks h).votes) found

-- after an exchange each honest guard has voted for the content
pub voted_after : {S : Type 0} (setting : Setting S) (e h slot : ℕ) (content : Content) (w next : World)
    → IsRelaying setting e h slot content w
    → (r : IsVoting setting e h slot content next) → Happens setting w Exchange (Ok next) → (g : ℕ)
    → IsHonestGuard setting e h g
    → HasMade next.ledger g (said_in e (deliver h slot content))
unfolding quorum_at
voted_after {S} setting e h slot content w next before r happens g guard =
    by_place (here_of setting e h slot content next r.stands g guard).stands
  where
    v : View
    v = next.nodes g

    other : g ≢ olympus
    other = no_olympus setting next r.stands.place e h g guard

    Claim : Type 0
    Claim = HasMade next.ledger g (said_in e (deliver h slot content))

    by_own : length_of v h ≡ slot → (o : Option Content) → (v.desks h).delivered ≡ o → Claim
    by_own at (Some own) is =
        let made = (sound_of setting e h slot content next r.stands g guard).own.own.kept Delivered h own is in
        let here = subst (λ n. HasMade next.ledger g (said_in n (deliver h slot own))) (now_of setting e h slot content next r.stands g guard)
        (subst (λ n. HasMade next.ledger g (said_in v.epoch (deliver h n own))) at made) in
        subst (λ c. HasMade next.ledger g (said_in e (deliver h slot c))) (r.one g own here) here
    by_own at None is = absurd (must_vote setting e h slot content next r.stands g guard at is (record {
      makers = λ m. quorum.makers m && not (setting.liars m);
      each = each;
      enough = honest_of_quorum (setting.scope.t e h) quorum.makers (setting.scope.guards e h) setting.liars
          (λ m among. (quorum.each m among).0) ((few_liars_of setting r.stands.place.asked).few e h) (many_of setting e h slot content next r.stands) quorum.enough;
    }))
      where
        quorum : AtLeast (quorum_at setting.scope e h) (IsVouched setting w.ledger e h (deliver h slot content))
        quorum = quorum_of setting e h slot content w before

        never : HasMade w.ledger g (said_in e (deliver h slot content)) → ⊥
        never has =
            let made = made_on setting g g (said_in e (deliver h slot content)) w next (Exchange ∷ []) other (one_exchange setting w next happens) has in
            elim ((sound_of setting e h slot content next r.stands g guard).own.own.said Delivered h slot content
            (subst (λ n. HasMade next.ledger g (said_in n (deliver h slot content))) (sym (now_of setting e h slot content next r.stands g guard)) made)) [
              | inl past ↦ omega (arith, past, at)
              | inr kept ↦ let no = sym is ∙ kept.1 in cc
            ]

        each : (m : ℕ) → (quorum.makers m && not (setting.liars m)) ≡ true
            → VotedFor content (v.desks h).votes m
        each m among =
            let parts = both_true (quorum.makers m) (not (setting.liars m)) among in
            let vouched = quorum.each m parts.0 in
            let honest = not_true (setting.liars m) parts.1 in
            let maker = honest_of setting e h slot content w before.stands m vouched.0 honest in
            let has = vouched.1 honest in
            let stands = vote_exchanged setting e h slot content w next before.stands happens m g maker guard
            (λ same. never (subst (λ x. HasMade w.ledger x (said_in e (deliver h slot content))) same has)) has in
            elim (stands.here (now_of setting e h slot content next r.stands g guard)).stands [
              | inl past ↦ absurd (omega (arith, past, at))
              | inr marked ↦ vote_is setting e h slot content next r g guard at m maker marked.1
            ]

    by_place : Stands h slot NoMark v → Claim
    by_place (inl past) = r.past g guard past
    by_place (inr at) = by_own at.0 (v.desks h).delivered refl

-- ---- stage two

-- the content fits a log that has the slot behind it
fits_next : {S : Type 0} (scope : Scope S) (v : View) (h : ℕ) (content : Content)
    → Fits scope.rules h (v.logs h) content
    → fits scope v h content ≡ true
unfolding fits next_number
fits_next scope v h (External payload) fit = refl
fits_next scope v h (Message p k payload) fit =
    ap (λ (b : Bool). b && (scope.rules.linked p h && k == (replica_of scope v h).received p h)) (lt-ltb p scope.rules.hosts fit.0)
    ∙ (ap (λ (b : Bool). b && k == (replica_of scope v h).received p h) fit.1
    ∙ (Decides-eqb k ((replica_of scope v h).received p h)).1 fit.2)

-- the log rule is enabled in an open slot where a quorum voted for a content that fits
enabled_log : {S : Type 0} (scope : Scope S) (v : View) (h : ℕ) (content : Content)
    → is_open scope v h ≡ true
    → delivered (quorum_at scope v.epoch h) (v.desks h).votes ≡ Some content → fits scope v h content ≡ true
    → to_log scope v h ≡ Some content
unfolding to_log
enabled_log scope v h content opened voted fit =
    ap (λ (b : Bool). only_if b (passing_only (fits scope v h) (delivered (quorum_at scope v.epoch h) (v.desks h).votes))) opened
    ∙ (ap (passing_only (fits scope v h)) voted ∙ ap (λ (b : Bool). if b then Some content else None) fit)

-- where a quorum voted for the content by what it keeps, it has logged it
must_log : {S : Type 0} (setting : Setting S) (e h slot : ℕ) (content : Content) (w : World) (r : IsVoting setting e h slot content w) (g : ℕ)
    → IsHonestGuard setting e h g → length_of (w.nodes g) h ≡ slot
    → AtLeast (quorum_at setting.scope e h) (VotedFor content ((w.nodes g).desks h).votes) → ⊥
must_log {S} setting e h slot content w r g guard at enough = by (voted_by (quorum_at setting.scope e h) votes) refl
  where
    v : View
    v = w.nodes g

    votes : List (Option Vote)
    votes = (v.desks h).votes

    seats : length votes ≡ 32
    seats = ((sound_of setting e h slot content w r.stands g guard).seats.desks h).votes

    few : setting.scope.t e h + 1 ≤ quorum_at setting.scope e h
    few = many_guards setting r.stands.place.asked r.stands.place.good e h g guard.guards

    within : (d : Content) (m : ℕ) → VotedFor d votes m → setting.scope.guards e h m ≡ true
    within d m has =
        subst (λ n. setting.scope.guards n h m ≡ true) (now_of setting e h slot content w r.stands g guard)
        (((sound_of setting e h slot content w r.stands g guard).rests.desks h).votes m has.0 has.1)

    is : (d : Content) → voted_by (quorum_at setting.scope e h) votes ≡ Some d → d ≡ content
    is d found =
        let makers = AtLeast-fewer (quorum_at setting.scope e h) (setting.scope.t e h + 1) (VotedFor d votes) few
        (votes_stand d votes (quorum_at setting.scope e h) seats found) in
        let one = AtLeast-honest (setting.scope.t e h) (setting.scope.guards e h) setting.liars (VotedFor d votes) (within d)
        ((few_liars_of setting r.stands.place.asked).few e h) makers in
        let has = one.2 in
        let maker = honest_of setting e h slot content w r.stands one.0 (within d one.0 has) one.3 in
        sym has.2 ∙ vote_content setting e h slot content w r g guard at one.0 maker has.0 has.1

    logs : (d : Content) → voted_by (quorum_at setting.scope e h) votes ≡ Some d
        → to_log setting.scope v h ≡ Some content
    logs d found =
        enabled_log setting.scope v h content (opened_at setting e h slot content w r.stands g guard at)
        (ap (λ (n : ℕ). delivered (quorum_at setting.scope n h) votes) (now_of setting e h slot content w r.stands g guard) ∙ (found ∙ ap Some (is d found)))
        (fits_next setting.scope v h content (r.fits g guard at))

    by : (o : Option Content) → voted_by (quorum_at setting.scope e h) votes ≡ o → ⊥
    by (Some d) found =
        let no = sym (quiet_log setting.scope v h (r.stands.place.quiet g) (low_host setting e h slot content w r.stands)) ∙ logs d found in cc
    by None found =
        let some = votes_found content votes (quorum_at setting.scope e h) seats (omega (arith, few)) enough in
        let no = sym (ap is_some found) ∙ some in cc

-- after an exchange of all their votes each honest guard has logged the content
pub logged_after : {S : Type 0} (setting : Setting S) (e h slot : ℕ) (content : Content) (w next : World)
    → IsStanding setting e h slot content w
    → (r : IsVoting setting e h slot content next) → Happens setting w Exchange (Ok next)
    → ((m : ℕ) → IsHonestGuard setting e h m → HasMade w.ledger m (said_in e (deliver h slot content)))
    → (g : ℕ) → IsHonestGuard setting e h g → slot < length_of (next.nodes g) h
unfolding quorum_at
logged_after {S} setting e h slot content w next before r happens all g guard =
    by_place (here_of setting e h slot content next r.stands g guard).stands
  where
    v : View
    v = next.nodes g

    other : g ≢ olympus
    other = no_olympus setting next r.stands.place e h g guard

    own : length_of v h ≡ slot → HasVote g (v.desks h)
    own at =
        let votes = keep_votes setting (hosts_of_scenario setting r.stands.place.asked) r.stands.reached.events next r.stands.reached.happen g other in
        let made = made_on setting g g (said_in e (deliver h slot content)) w next (Exchange ∷ []) other (one_exchange setting w next happens) (all g guard) in
        let low = guard.host in let few = r.stands.place.asked.hosts in
        elim ((sound_of setting e h slot content next r.stands g guard).own.own.said Delivered h slot content
        (subst (λ n. HasMade next.ledger g (said_in n (deliver h slot content))) (sym (now_of setting e h slot content next r.stands g guard)) made)) [
          | inl past ↦ absurd (omega (arith, past, at))
          | inr kept ↦ votes.own h (omega (arith, low, few)) content kept.1
        ]

    each : length_of v h ≡ slot → (m : ℕ) → (setting.scope.guards e h m && not (setting.liars m)) ≡ true
        → VotedFor content (v.desks h).votes m
    each at m among =
        let parts = both_true (setting.scope.guards e h m) (not (setting.liars m)) among in
        let maker = honest_of setting e h slot content next r.stands m parts.0 (not_true (setting.liars m) parts.1) in
        vote_is setting e h slot content next r g guard at m maker
        (elim (cases_eq m g) [
          | inl same ↦ subst (λ x. HasVote x (v.desks h)) (sym same) (own at)
          | inr ne ↦
              elim ((vote_exchanged setting e h slot content w next before happens m g maker guard ne (all m maker)).here
              (now_of setting e h slot content next r.stands g guard)).stands [
                | inl past ↦ absurd (omega (arith, past, at))
                | inr marked ↦ marked.1
              ]
        ])

    by_place : Stands h slot NoMark v → slot < length_of v h
    by_place (inl past) = past
    by_place (inr at) = absurd (must_log setting e h slot content next r g guard at.0 (record {
      makers = λ m. setting.scope.guards e h m && not (setting.liars m);
      each = each at.0;
      enough = honest_are_a_quorum (setting.scope.t e h) (setting.scope.guards e h) setting.liars
          ((few_liars_of setting r.stands.place.asked).few e h) (many_of setting e h slot content next r.stands);
    }))

-- The second and the third of the four exchanges: the host has the orders of all honest guards and has sent its
-- certificate of them, and then each honest guard has voted for the content.
use Rattle.std.proofs.Common.{◌≡◌, ◌≢◌, ℕ, zero, suc, ◌<◌, ◌≤◌, ◌⊎◌, ◌&&◌, Bool, true, false, List, [], ◌∷◌, Some, None, Ok, refl, ap, sym, subst, ◌∙◌, inl, inr, arith, le-leb, lt-ltb}
use Rattle.std.specs.Prelude.{Contains, if◌then◌else◌, is_some, nat_lt, not, Option}
use Rattle.std.specs.Option.{option_or}
use Rattle.std.proofs.lemmas.Bool.{cases_eq, ne_eqb}
use Rattle.std.proofs.lemmas.Bool.Decides.{Decides-eqb}
use Rattle.nys_bytes.specs.declared.content.Content.{Content}
use Rattle.nys_votes.specs.Delivered.{backed}
use Rattle.nys_votes.specs.Seats.{count_all}
use Rattle.nys_votes.proofs.SeatLemmas.{counts_kept}
use Rattle.nys_rules.specs.Events.Plain.{Exchange}
use Rattle.nys_rules.specs.Exchanges.{IsHonestGuard}
use Rattle.nys_rules.specs.Forged.{HasMade}
use Rattle.nys_rules.specs.Happening.{Happens}
use Rattle.nys_rules.specs.Rules.{is_certified, only_if, ordered_content, to_certify}
use Rattle.nys_rules.specs.Scope.{olympus, quorum_at, Scope}
use Rattle.nys_rules.specs.Sending.{packet, said_in}
use Rattle.nys_rules.specs.View.{is_live, length_of, View}
use Rattle.nys_rules.specs.World.{is_honest, Setting, World}
use Rattle.nys_rules.proofs.CertificateLemmas.{both_true}
use Rattle.nys_rules.proofs.DueLemmas.{quiet_certify, quiet_deliver}
use Rattle.nys_laws.specs.Own.{body_at, HasSaid}
use Rattle.nys_laws.specs.Own.Stage.{Delivered, Offered, Ordered}
use Rattle.nys_laws.proofs.LiveLemmas.{not_true}
use Rattle.nys_follows.proofs.FeedingWorlds.{hosts_of_scenario, low_or_not, set_up_of}
use Rattle.nys_progress.specs.FourExchanges.{HasWholeOrders}
use Rattle.nys_progress.specs.Statements.{deliver}
use Rattle.nys_progress.proofs.BroughtRecords.{mark_exchanged}
use Rattle.nys_progress.proofs.CertificateStage.{certificate_for, certificate_marks, IsCertificateFor}
use Rattle.nys_progress.proofs.CollectedDesks.{certificate_of, OfDesk}
use Rattle.nys_progress.proofs.CollectedSteps.{are_collecting}
use Rattle.nys_progress.proofs.CollectStage.{order_marks}
use Rattle.nys_progress.proofs.LoggedHere.{no_olympus}
use Rattle.nys_progress.proofs.MarkedDesks.{keep_votes, Stands}
use Rattle.nys_progress.proofs.OfferedContents.{deliver_one, honest_quorum, own_guard, own_said, own_stands, standing_of, voting_of_offer}
use Rattle.nys_progress.proofs.OrderLaw.{IsOffering, not_top}
use Rattle.nys_progress.proofs.OrderMarks.{HasCertified, HasOrder}
use Rattle.nys_progress.proofs.ReadRecords.{IsTold}
use Rattle.nys_progress.proofs.RelayStages.{honest_of, low_host, made_on, one_exchange, opened_at, sound_of}
use Rattle.nys_progress.proofs.RelayWorlds.{guards_here, here_of, IsStanding, me_of, now_of, on_of}
use Rattle.nys_progress.proofs.TakenVotes.{live_by, NoMark, not_wedged}
use Rattle.nys_progress.proofs.VotedEntries.{enabled_deliver}

-- ---- all, or one that is past

-- of the hosts below n, all honest guards of h are such that P, or one of them is such that Q
all_or_one : {S : Type 0} (setting : Setting S) (e h : ℕ) (P Q : ℕ → Type 0)
    → ((g : ℕ) → IsHonestGuard setting e h g → Q g ⊎ P g) → (n : ℕ)
    → ((g : ℕ) → g < n → IsHonestGuard setting e h g → P g) ⊎ ((g : ℕ) × IsHonestGuard setting e h g × Q g)
all_or_one setting e h P Q each zero = inl (λ g low guard. absurd (omega (arith, low)))
all_or_one {S} setting e h P Q each (suc n) = by (all_or_one setting e h P Q each n)
  where
    last : ((g : ℕ) → g < n → IsHonestGuard setting e h g → P g) → (IsHonestGuard setting e h n → P n)
        → (g : ℕ) → g < suc n → IsHonestGuard setting e h g → P g
    last all here g low guard = elim (cases_eq g n) [
      | inl same ↦ subst P (sym same) (here (subst (IsHonestGuard setting e h) same guard))
      | inr ne ↦ all g (omega (arith, low, ne)) guard
    ]

    at : ((g : ℕ) → g < n → IsHonestGuard setting e h g → P g) → (honest guards : Bool)
        → is_honest setting n ≡ honest → setting.scope.guards e h n ≡ guards
        → ((g : ℕ) → g < suc n → IsHonestGuard setting e h g → P g) ⊎ ((g : ℕ) × IsHonestGuard setting e h g × Q g)
    at all false guards is has = inl (last all (λ guard. absurd (let no = sym is ∙ guard.honest in cc)))
    at all true false is has = inl (last all (λ guard. absurd (let no = sym has ∙ guard.guards in cc)))
    at all true true is has = elim (low_or_not n setting.scope.rules.hosts) [
      | inl low ↦
          let guard : IsHonestGuard setting e h n = record { host = low; honest = is; guards = has } in
          elim (each n guard) [ inl past ↦ inr (n, guard, past) | inr said ↦ inl (last all (λ again. said)) ]
      | inr high ↦ inl (last all (λ guard. absurd (let low = guard.host in omega (arith, low, high))))
    ]

    by : ((g : ℕ) → g < n → IsHonestGuard setting e h g → P g) ⊎ ((g : ℕ) × IsHonestGuard setting e h g × Q g)
        → ((g : ℕ) → g < suc n → IsHonestGuard setting e h g → P g) ⊎ ((g : ℕ) × IsHonestGuard setting e h g × Q g)
    by (inr one) = inr one
    by (inl all) = at all (is_honest setting n) (setting.scope.guards e h n) refl refl

-- of all honest guards
pub each_or_one : {S : Type 0} (setting : Setting S) (e h : ℕ) (P Q : ℕ → Type 0) → setting.scope.rules.hosts ≤ 32
    → ((g : ℕ) → IsHonestGuard setting e h g → Q g ⊎ P g)
    → ((g : ℕ) → IsHonestGuard setting e h g → P g) ⊎ ((g : ℕ) × IsHonestGuard setting e h g × Q g)
each_or_one setting e h P Q few each = elim (all_or_one setting e h P Q each 32) [
  | inl all ↦ inl (λ g guard. all g (let low = guard.host in omega (arith, low, few)) guard)
  | inr one ↦ inr one
]

-- ---- the second exchange

-- what is asked where orders are told to the host
told_of : {S : Type 0} (setting : Setting S) (e h slot : ℕ) (content : Content) (w : World)
    → IsOffering setting e h slot content w → (m g : ℕ) → IsHonestGuard setting e h m → IsHonestGuard setting e h g → m ≢ g
    → IsTold setting.scope Ordered e h slot content m g
told_of setting e h slot content w r m g maker guard ne = record {
  hosts = hosts_of_scenario setting r.place.asked;
  tags = r.tags;
  carried = r.carried;
  epoch = r.epoch;
  host = r.host;
  room = r.room;
  maker = maker.host;
  taker = guard.guards;
  other = ne;
}

-- what the host's node keeps in its slot: the orders of all honest guards
pub collected_after : {S : Type 0} (setting : Setting S) (e h slot : ℕ) (content : Content) (w next : World)
    → IsOffering setting e h slot content w → IsOffering setting e h slot content next → Happens setting w Exchange (Ok next)
    → ((m : ℕ) → IsHonestGuard setting e h m → HasSaid w.ledger m Ordered e h slot content)
    → length_of (next.nodes h) h ≡ slot → (m : ℕ) → IsHonestGuard setting e h m → HasOrder m ((next.nodes h).desks h)
collected_after {S} setting e h slot content w next before r happens said at m maker = elim (cases_eq m h) [
  | inl same ↦ subst (λ x. HasOrder x ((next.nodes h).desks h)) (sym same) own
  | inr ne ↦ elim ((mark_exchanged setting e h slot h (HasOrder m) _ _ h (said_in e (body_at Offered h slot content)) w next
      (order_marks setting e h slot content m (record {
        told = told_of setting e h slot content w before m h maker host ne;
        guards = maker.guards;
        honest = r.honest;
        taker = top;
      })) (record {
        asked = set_up_of setting r.place.asked;
        from = maker.honest;
        honest = r.honest;
        other = top;
        to = refl;
        on = on_of setting e h slot content w (standing_of setting e h slot content w before);
        votes = keep_votes setting (hosts_of_scenario setting r.place.asked) before.reached.events w before.reached.happen;
        here = (before.fine h host).stands;
        sent = before.place.sent m maker.honest (no_olympus setting w before.place e h m maker) Ordered e h slot content (said m maker) h refl (λ is. ne (sym is));
        made = before.offered;
      }) happens).here now).stands [
        | inl past ↦ absurd (omega (arith, past, at))
        | inr marked ↦ marked.1
      ]
]
  where
    host : IsHonestGuard setting e h h
    host = own_guard setting e h slot content next r

    top : h ≢ olympus
    top = not_top setting e h slot content next r

    stands : IsStanding setting e h slot content next
    stands = standing_of setting e h slot content next r

    now : (next.nodes h).epoch ≡ e
    now = now_of setting e h slot content next stands h host

    low : h < 32
    low = low_host setting e h slot content next stands

    own : HasOrder h ((next.nodes h).desks h)
    own =
        let made = made_on setting h h (said_in e (body_at Ordered h slot content)) w next (Exchange ∷ []) top
        (one_exchange setting w next happens) (said h host) in
        (are_collecting setting (hosts_of_scenario setting r.place.asked) r.reached.events next r.reached.happen h r.honest low).own
        content (own_stands setting e h slot content next stands h host at Ordered content made)

-- the makers that the host has are a quorum
enough_of : {S : Type 0} (setting : Setting S) (e h slot : ℕ) (content : Content) (w : World)
    → IsOffering setting e h slot content w
    → ((m : ℕ) → IsHonestGuard setting e h m → HasOrder m ((w.nodes h).desks h))
    → quorum_at setting.scope e h ≤ count_all ((w.nodes h).desks h).orders
enough_of {S} setting e h slot content w r all =
    (counts_kept ((w.nodes h).desks h).orders (quorum_at setting.scope e h)
    ((sound_of setting e h slot content w stands h (own_guard setting e h slot content w r)).seats.desks h).orders).1
    (record {
      makers = λ m. setting.scope.guards e h m && not (setting.liars m);
      each = λ m among.
          let parts = both_true (setting.scope.guards e h m) (not (setting.liars m)) among in
          let has = all m (honest_of setting e h slot content w stands m parts.0 (not_true (setting.liars m) parts.1)) in
          ap is_some has.1;
      enough = honest_quorum setting e h slot content w stands;
    })
  where
    stands : IsStanding setting e h slot content w
    stands = standing_of setting e h slot content w r

-- so what it offered is certified
certified_of : {S : Type 0} (setting : Setting S) (e h slot : ℕ) (content : Content) (w : World)
    → IsOffering setting e h slot content w
    → ((m : ℕ) → IsHonestGuard setting e h m → HasOrder m ((w.nodes h).desks h))
    → is_certified setting.scope (w.nodes h) h ≡ true
certified_of setting e h slot content w r all =
    let stands = standing_of setting e h slot content w r in
    let now = now_of setting e h slot content w stands h (own_guard setting e h slot content w r) in
    let enough = enough_of setting e h slot content w r all in
    let same = ap (λ n. quorum_at setting.scope n h) now in
    le-leb (quorum_at setting.scope (w.nodes h).epoch h) (count_all ((w.nodes h).desks h).orders) (omega (arith, enough, same))

-- a quorum is one or more
quorum_some : {S : Type 0} (scope : Scope S) (e h : ℕ) → 1 ≤ quorum_at scope e h
unfolding quorum_at
quorum_some scope e h = omega arith

-- the host has sent a certificate with all that it has
all_sent : {S : Type 0} (setting : Setting S) (e h slot : ℕ) (content : Content) (w : World)
    → IsOffering setting e h slot content w → length_of (w.nodes h) h ≡ slot
    → ((m : ℕ) → IsHonestGuard setting e h m → HasOrder m ((w.nodes h).desks h))
    → count_all ((w.nodes h).desks h).orders ≤ ((w.nodes h).desks h).sent
unfolding to_certify
all_sent {S} setting e h slot content w r at all = elim (low_or_not (v.desks h).sent (count_all (v.desks h).orders)) [
  | inl fewer ↦ absurd
      (let no = sym (quiet_certify setting.scope v h (r.place.quiet h) low) ∙ enabled fewer in cc)
  | inr most ↦ most
]
  where
    v : View
    v = w.nodes h

    host : IsHonestGuard setting e h h
    host = own_guard setting e h slot content w r

    stands : IsStanding setting e h slot content w
    stands = standing_of setting e h slot content w r

    low : h < 32
    low = low_host setting e h slot content w stands

    now : v.epoch ≡ e
    now = now_of setting e h slot content w stands h host

    live : is_live setting.scope v h ≡ true
    live = live_by setting.scope v h r.host (guards_here setting e h slot content w stands h host)
        (here_of setting e h slot content w stands h host).lives

    active : v.wedged ≡ false
    active = not_wedged setting e h w (on_of setting e h slot content w stands) (not_top setting e h slot content w r) now

    offered : (v.desks h).offered ≡ Some content
    offered = own_stands setting e h slot content w stands h host at Offered content r.offered

    enabled : (v.desks h).sent < count_all (v.desks h).orders → to_certify setting.scope v h ≡ Some content
    enabled fewer =
        let rest = λ (b : Bool). b && nat_lt (v.desks h).sent (count_all (v.desks h).orders) in
        ap (λ (b : Bool). only_if ((b && (is_live setting.scope v h && not v.wedged)) && rest (is_certified setting.scope v h)) (v.desks h).offered)
        ((Decides-eqb v.me h).1 (me_of setting e h slot content w stands h host))
        ∙ (ap (λ (b : Bool). only_if ((b && not v.wedged) && rest (is_certified setting.scope v h)) (v.desks h).offered) live
        ∙ (ap (λ (b : Bool). only_if (not b && rest (is_certified setting.scope v h)) (v.desks h).offered) active
        ∙ (ap (λ (b : Bool). only_if (rest b) (v.desks h).offered) (certified_of setting e h slot content w r all)
        ∙ (ap (λ (b : Bool). only_if b (v.desks h).offered) (lt-ltb (v.desks h).sent (count_all (v.desks h).orders) fewer) ∙ offered))))

-- what the host keeps is of the slot
keeps_of : {S : Type 0} (setting : Setting S) (e h slot : ℕ) (content : Content) (w : World)
    → IsOffering setting e h slot content w → length_of (w.nodes h) h ≡ slot
    → OfDesk setting.scope w.pool w.injected h e slot ((w.nodes h).desks h)
keeps_of setting e h slot content w r at =
    let stands = standing_of setting e h slot content w r in
    let now = now_of setting e h slot content w stands h (own_guard setting e h slot content w r) in
    subst (λ n. OfDesk setting.scope w.pool w.injected h e n ((w.nodes h).desks h)) at
    (subst (λ n. OfDesk setting.scope w.pool w.injected h n (length_of (w.nodes h) h) ((w.nodes h).desks h)) now
    (are_collecting setting (hosts_of_scenario setting r.place.asked) r.reached.events w r.reached.happen h r.honest
    (low_host setting e h slot content w stands)))

-- so its certificate is there for each other guard
pub certificate_sent : {S : Type 0} (setting : Setting S) (e h slot : ℕ) (content : Content) (w : World)
    → IsOffering setting e h slot content w → length_of (w.nodes h) h ≡ slot
    → ((m : ℕ) → IsHonestGuard setting e h m → HasOrder m ((w.nodes h).desks h))
    → (g : ℕ) → IsHonestGuard setting e h g → g ≢ h
    → Contains w.pool (packet h g (certificate_of h e slot content ((w.nodes h).desks h).orders))
certificate_sent setting e h slot content w r at all g guard ne =
    let keeps = keeps_of setting e h slot content w r at in
    let most = keeps.most in
    let sent = all_sent setting e h slot content w r at all in
    let enough = enough_of setting e h slot content w r all in
    let some = quorum_some setting.scope e h in
    let stands = standing_of setting e h slot content w r in
    keeps.sent_all (omega (arith, sent, enough, some)) (omega (arith, sent, most)) content
    (own_stands setting e h slot content w stands h (own_guard setting e h slot content w r) at Offered content r.offered)
    g guard.guards ne

-- and each guard that takes it counts it
pub certificate_fits : {S : Type 0} (setting : Setting S) (e h slot : ℕ) (content : Content) (w : World)
    → IsOffering setting e h slot content w → length_of (w.nodes h) h ≡ slot
    → ((m : ℕ) → IsHonestGuard setting e h m → HasOrder m ((w.nodes h).desks h)) → HasWholeOrders setting w e h slot
    → (g : ℕ) → IsHonestGuard setting e h g → g ≢ h
    → IsCertificateFor setting e h slot content g ((w.nodes h).desks h).orders
certificate_fits {S} setting e h slot content w r at all whole g guard ne =
    certificate_for setting w e h slot content g ((w.nodes h).desks h).orders (record {
      gathered = record {
        told = told_of setting e h slot content w r h g host guard (λ is. ne (sym is));
        seats = ((sound_of setting e h slot content w stands h host).seats.desks h).orders;
        some = let own = all h host in (h, own.0, own.1);
        from = λ m tags get. (keeps_of setting e h slot content w r at).from m tags get content
            (own_stands setting e h slot content w stands h host at Offered content r.offered);
        whole = whole;
      };
      guard = guard;
      host = host;
      all = all;
    }) (no_olympus setting w r.place e h g guard)
    (λ m guards honest. honest_of setting e h slot content w stands m guards honest)
    (honest_quorum setting e h slot content w stands)
  where
    stands : IsStanding setting e h slot content w
    stands = standing_of setting e h slot content w r

    host : IsHonestGuard setting e h h
    host = own_guard setting e h slot content w r

-- ---- the third exchange

-- a guard at the slot for which some content is ordered has voted for the offer's
voted_where : {S : Type 0} (setting : Setting S) (e h slot : ℕ) (content : Content) (w : World)
    → IsOffering setting e h slot content w → (g : ℕ) → IsHonestGuard setting e h g → length_of (w.nodes g) h ≡ slot
    → (c : Content) → ordered_content setting.scope (w.nodes g) h ≡ Some c
    → HasMade w.ledger g (said_in e (deliver h slot content))
voted_where {S} setting e h slot content w r g guard at c ordered = by (v.desks h).delivered refl
  where
    v : View
    v = w.nodes g

    stands : IsStanding setting e h slot content w
    stands = standing_of setting e h slot content w r

    value : option_or (ordered_content setting.scope v h) (backed (setting.scope.t v.epoch h) (v.desks h).votes) ≡ Some c
    value = ap (λ (o : Option Content). option_or o (backed (setting.scope.t v.epoch h) (v.desks h).votes)) ordered

    by : (o : Option Content) → (v.desks h).delivered ≡ o → HasMade w.ledger g (said_in e (deliver h slot content))
    by (Some own) is =
        let made = own_said setting e h slot content w stands g guard at Delivered own is in
        subst (λ d. HasMade w.ledger g (said_in e (deliver h slot d))) (deliver_one setting e h slot content w r g own made) made
    by None is = absurd
        (let no = sym (quiet_deliver setting.scope v h (r.place.quiet g) (low_host setting e h slot content w stands))
        ∙ enabled_deliver setting.scope v h c (opened_at setting e h slot content w stands g guard at) is value in
        cc)

-- the host votes as soon as it has the orders of all honest guards
pub host_voted : {S : Type 0} (setting : Setting S) (e h slot : ℕ) (content : Content) (w : World)
    → IsOffering setting e h slot content w → length_of (w.nodes h) h ≡ slot
    → ((m : ℕ) → IsHonestGuard setting e h m → HasOrder m ((w.nodes h).desks h))
    → HasMade w.ledger h (said_in e (deliver h slot content))
unfolding ordered_content
host_voted {S} setting e h slot content w r at all =
    voted_where setting e h slot content w r h host at content
    (ap (λ (b : Bool). if b then only_if (is_certified setting.scope v h) (v.desks h).offered else (v.desks h).certified)
    ((Decides-eqb v.me h).1 (me_of setting e h slot content w stands h host))
    ∙ (ap (λ (b : Bool). only_if b (v.desks h).offered) (certified_of setting e h slot content w r all)
    ∙ own_stands setting e h slot content w stands h host at Offered content r.offered))
  where
    v : View
    v = w.nodes h

    stands : IsStanding setting e h slot content w
    stands = standing_of setting e h slot content w r

    host : IsHonestGuard setting e h h
    host = own_guard setting e h slot content w r

-- another guard has voted after an exchange that brings it the certificate, or is past the slot
pub guard_voted : {S : Type 0} (setting : Setting S) (e h slot : ℕ) (content : Content) (w next : World)
    → IsOffering setting e h slot content w → IsOffering setting e h slot content next → Happens setting w Exchange (Ok next)
    → (g : ℕ) → IsHonestGuard setting e h g → g ≢ h → (orders : List (Option (List (ℕ × List ℕ))))
    → IsCertificateFor setting e h slot content g orders
    → Contains w.pool (packet h g (certificate_of h e slot content orders))
    → HasSaid w.ledger g Ordered e h slot content
    → HasMade next.ledger g (said_in e (deliver h slot content))
unfolding ordered_content
guard_voted {S} setting e h slot content w next before r happens g guard ne orders fits sent said =
    by_place (here_of setting e h slot content next stands g guard).stands
  where
    v : View
    v = next.nodes g

    stands : IsStanding setting e h slot content next
    stands = standing_of setting e h slot content next r

    other : g ≢ olympus
    other = no_olympus setting next r.place e h g guard

    counted : length_of v h ≡ slot → HasCertified (v.desks h)
    counted at = elim ((mark_exchanged setting e h slot g HasCertified _ _ g (said_in e (body_at Ordered h slot content)) w next
        (certificate_marks setting e h slot content g orders fits) (record {
          asked = set_up_of setting r.place.asked;
          from = r.honest;
          honest = guard.honest;
          other = other;
          to = refl;
          on = on_of setting e h slot content w (standing_of setting e h slot content w before);
          votes = keep_votes setting (hosts_of_scenario setting r.place.asked) before.reached.events w before.reached.happen;
          here = (before.fine g guard).stands;
          sent = sent;
          made = said;
        }) happens).here (now_of setting e h slot content next stands g guard)).stands [
          | inl past ↦ absurd (omega (arith, past, at))
          | inr marked ↦ marked.1
        ]

    by_place : Stands h slot NoMark v → HasMade next.ledger g (said_in e (deliver h slot content))
    by_place (inl past) = (voting_of_offer setting e h slot content next r).past g guard past
    by_place (inr at) =
        let has = counted at.0 in
        voted_where setting e h slot content next r g guard at.0 has.0
        (ap (λ (b : Bool). if b then only_if (is_certified setting.scope v h) (v.desks h).offered else (v.desks h).certified)
        (ne_eqb v.me h (λ is. ne (sym (me_of setting e h slot content next stands g guard) ∙ is)))
        ∙ has.1)

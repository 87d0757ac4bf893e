-- What a host keeps of the orders that it collects: each was read from bytes that are there, or is its own; and where it
-- sent a certificate with as many makers as it has, that is in the pool with just these.
use Rattle.std.proofs.Common.{◌≡◌, ◌≢◌, ℕ, ◌<◌, ◌≤◌, ◌⊎◌, ◌==◌, ◌&&◌, Bool, true, List, ◌++◌, Some, None, Ok, refl, ap, sym, subst, ◌∙◌, inl, inr, arith}
use Rattle.std.specs.Prelude.{Contains, if◌then◌else◌, Option}
use Rattle.std.proofs.lemmas.Bool.Decides.{Decides-eqb}
use Rattle.std.proofs.lemmas.List.Elements.{Contains-append_left, Contains-append_right}
use Rattle.nys_bytes.specs.declared.content.Content.{Content}
use Rattle.nys_votes.specs.Ordered.{record_from}
use Rattle.nys_votes.specs.Seats.{count_all, seat_of, with_seat}
use Rattle.nys_votes.proofs.ContentLemmas.{decide_contents}
use Rattle.nys_stmt.specs.declared.records.Record.{Record}
use Rattle.nys_stmt.specs.declared.statement.Body.TheVariants as body
use Rattle.nys_stmt.specs.declared.statement.FilledKind.TheVariants as kind
use Rattle.nys_stmt.specs.declared.statement.Statement.{Statement}
use Rattle.nys_stmt.specs.declared.tags.Tags.{Tags}
use Rattle.nys_wire.specs.Reading.{whole_record}
use Rattle.nys_rules.specs.declared.rule.Rule.TheVariants.{Certificate}
use Rattle.nys_rules.specs.Certificates.{IsOwnOrdered}
use Rattle.nys_rules.specs.Forged.{Entry}
use Rattle.nys_rules.specs.Noting.{is_content}
use Rattle.nys_rules.specs.Packets.{Given, Sent}
use Rattle.nys_rules.specs.Rules.{to_certify, to_order}
use Rattle.nys_rules.specs.Scope.{guards_of, Scope}
use Rattle.nys_rules.specs.Sending.{packet, said_in, tags_for}
use Rattle.nys_rules.specs.Taking.{acts_of, certificate, certifying, own_tags, with_offer, with_order, with_sent}
use Rattle.nys_rules.specs.View.{Desk, empty_desk, length_of, View}
use Rattle.nys_rules.specs.World.{is_honest, Setting}
use Rattle.nys_rules.proofs.CertificateLemmas.{certifies_by_makers, orders_by_makers}
use Rattle.nys_rules.proofs.SeatCases.{with_seat_case, with_seat_takes}
use Rattle.nys_laws.specs.Own.Stage.{Offered}
use Rattle.nys_laws.specs.Rests.{IsSound}
use Rattle.nys_laws.specs.SetUp.{AreHosts}
use Rattle.nys_progress.specs.FourExchanges.{AreThere}
use Rattle.nys_progress.proofs.MarkedDesks.{seat_there}
use Rattle.nys_progress.proofs.OrderMarks.{grown_most, HaveGrown, seat_grown, some_seated}
use Rattle.nys_progress.proofs.SentWorlds.{among_others, guard_among, packet_among}

-- the entry stands in a record of the statement that reads from bytes that are there
pub record IsReadThere (pool : List Sent) (injected : List Given) (statement : Statement) (tags : Tags) : Type 0 where
  pub frame : List ℕ
  pub there : AreThere pool injected frame
  pub r : Record
  pub reads : whole_record frame ≡ Ok r
  pub says : r.statement ≡ statement
  pub among : Contains r.makers tags

-- the host's own tags on its Order of a content in the slot
abbrev pub host_tags : {S : Type 0} → Scope S → (g e slot : ℕ) → Content → List (ℕ × List ℕ)
host_tags scope g e slot content = tags_for scope g (said_in e (body.Filled kind.Order g slot content)) (guards_of scope e g)

-- an entry was read there, or is the host's own
abbrev pub IsFrom : {S : Type 0} → Scope S → List Sent → List Given → (g e slot : ℕ) → Content → (m : ℕ)
    → List (ℕ × List ℕ) → Type 0
IsFrom scope pool injected g e slot content m tags =
    IsReadThere pool injected (said_in e (body.Filled kind.Order g slot content)) (record { maker = m; tags = tags })
    ⊎ ((m ≡ g) × (tags ≡ host_tags scope g e slot content))

-- the certificate with all orders that are collected
abbrev pub certificate_of : (g e slot : ℕ) → Content → List (Option (List (ℕ × List ℕ))) → Record
certificate_of g e slot content orders = record_from (said_in e (body.Filled kind.Order g slot content)) orders

-- what the host of a slot keeps of its own offer, by the parts of its desk
pub record IsCollecting {S : Type 0} (scope : Scope S) (pool : List Sent) (injected : List Given) (g e slot : ℕ)
    (offered ordered : Option Content) (orders : List (Option (List (ℕ × List ℕ)))) (sent : ℕ) : Type 0 where
  -- its own order is collected
  pub own : (c : Content) → ordered ≡ Some c → (tags : List (ℕ × List ℕ)) × (seat_of orders g ≡ Some tags)
  -- it sent no certificate with more makers than are collected
  pub most : sent ≤ count_all orders
  -- one that it sent with as many makers is there for each other guard
  pub sent_all : 0 < sent → sent ≡ count_all orders → (c : Content) → offered ≡ Some c → (m : ℕ)
      → scope.guards e g m ≡ true → m ≢ g → Contains pool (packet g m (certificate_of g e slot c orders))
  -- each order was read, or is its own
  pub from : (m : ℕ) (tags : List (ℕ × List ℕ)) → seat_of orders m ≡ Some tags → (c : Content) → offered ≡ Some c
      → IsFrom scope pool injected g e slot c m tags

-- the same of a desk
abbrev pub OfDesk : {S : Type 0} → Scope S → List Sent → List Given → (g e slot : ℕ) → Desk → Type 0
OfDesk scope pool injected g e slot desk =
    IsCollecting scope pool injected g e slot desk.offered desk.ordered desk.orders desk.sent

-- the same of the node of g
abbrev pub OfView : {S : Type 0} → Scope S → List Sent → List Given → (g : ℕ) → View → Type 0
OfView scope pool injected g v = OfDesk scope pool injected g v.epoch (length_of v g) (v.desks g)

-- bytes stay there
there_more : (pool more : List Sent) (injected : List Given) (frame : List ℕ) → AreThere pool injected frame
    → AreThere (pool ++ more) injected frame
there_more pool more injected frame (inl sent) = inl (sent.0, Contains-append_left pool more sent.0 sent.1, sent.2)
there_more pool more injected frame (inr given) = inr given

-- where more packets are there
pub collecting_more : {S : Type 0} (scope : Scope S) (pool more : List Sent) (injected : List Given) (g e slot : ℕ)
    (offered ordered : Option Content) (orders : List (Option (List (ℕ × List ℕ)))) (sent : ℕ)
    → IsCollecting scope pool injected g e slot offered ordered orders sent
    → IsCollecting scope (pool ++ more) injected g e slot offered ordered orders sent
collecting_more scope pool more injected g e slot offered ordered orders sent k = record {
  own = k.own;
  most = k.most;
  sent_all = λ some all c is m guard ne. Contains-append_left pool more _ (k.sent_all some all c is m guard ne);
  from = λ m tags get c is. elim (k.from m tags get c is) [
    | inl read ↦ inl (record {
      frame = read.frame;
      there = there_more pool more injected read.frame read.there;
      r = read.r;
      reads = read.reads;
      says = read.says;
      among = read.among;
    })
    | inr mine ↦ inr mine
  ];
}

-- where more bytes were given
pub collecting_given : {S : Type 0} (scope : Scope S) (pool : List Sent) (injected given : List Given) (g e slot : ℕ)
    (offered ordered : Option Content) (orders : List (Option (List (ℕ × List ℕ)))) (sent : ℕ)
    → ((x : Given) → Contains injected x → Contains given x)
    → IsCollecting scope pool injected g e slot offered ordered orders sent
    → IsCollecting scope pool given g e slot offered ordered orders sent
collecting_given scope pool injected given g e slot offered ordered orders sent stay k = record {
  own = k.own;
  most = k.most;
  sent_all = k.sent_all;
  from = λ m tags get c is. elim (k.from m tags get c is) [
    | inl read ↦ inl (record {
      frame = read.frame;
      there = elim read.there [ inl packet_there ↦ inl packet_there | inr bytes ↦ inr (bytes.0, stay bytes.0 bytes.1, bytes.2) ];
      r = read.r;
      reads = read.reads;
      says = read.says;
      among = read.among;
    })
    | inr mine ↦ inr mine
  ];
}

-- an empty desk keeps nothing
pub empty_collects : {S : Type 0} (scope : Scope S) (pool : List Sent) (injected : List Given) (g e slot : ℕ)
    → OfDesk scope pool injected g e slot empty_desk
empty_collects scope pool injected g e slot = record {
  own = λ c made. absurd (cc);
  most = omega arith;
  sent_all = λ some all c is m guard ne. absurd (omega (arith, some));
  from = λ m tags get c is. absurd (cc);
}

-- ---- each rule

-- an offer that is made: no order is collected yet
pub offer_collects : {S : Type 0} (setting : Setting S) (pool : List Sent) (injected : List Given) (g : ℕ) (ledger : List Entry) (v : View)
    (content : Content) → IsSound setting g ledger v → (v.desks g).offered ≡ None
    → OfView setting.scope pool injected g v
    → OfDesk setting.scope pool injected g v.epoch (length_of v g) (with_offer content (v.desks g))
unfolding with_offer
offer_collects {S} setting pool injected g ledger v content sound none k = record {
  own = k.own;
  most = k.most;
  sent_all = λ some all c is m guard ne.
      absurd (let one = some_seated (v.desks g).orders (sound.seats.desks g).orders (omega (arith, some, all)) in nobody one.0 one.1 one.2);
  from = λ m tags get c is. absurd (nobody m tags get);
}
  where
    nobody : (m : ℕ) (tags : List (ℕ × List ℕ)) → seat_of (v.desks g).orders m ≡ Some tags → ⊥
    nobody m tags get =
        let was = (sound.hears.desks g).orders m tags get in
        let no = sym none ∙ was.1 in cc

-- the content is the own offer
pub is_offer : (o : Option Content) (c : Content) → o ≡ Some c → is_content o c ≡ true
is_offer o c is = ap (λ x. is_content x c) is ∙ (decide_contents c c).1 refl

-- a content that is the offer is the offer's
pub offer_is : (o : Option Content) (c : Content) → is_content o c ≡ true → o ≡ Some c
offer_is None c is = absurd (cc)
offer_is (Some d) c is = ap Some ((decide_contents d c).0 is)

-- orders that have grown by entries that are there
pub more_collect : {S : Type 0} (scope : Scope S) (pool : List Sent) (injected : List Given) (g e slot : ℕ)
    (offered ordered now : Option Content) (orders next : List (Option (List (ℕ × List ℕ)))) (sent : ℕ)
    → IsCollecting scope pool injected g e slot offered ordered orders sent → HaveGrown orders next
    → ((c : Content) → now ≡ Some c → (tags : List (ℕ × List ℕ)) × (seat_of next g ≡ Some tags))
    → ((m : ℕ) (tags : List (ℕ × List ℕ)) → seat_of next m ≡ Some tags → (c : Content) → offered ≡ Some c
    → IsFrom scope pool injected g e slot c m tags)
    → IsCollecting scope pool injected g e slot offered now next sent
more_collect {S} scope pool injected g e slot offered ordered now orders next sent k grown own from = record {
  own = own;
  most = let was = k.most in let few = grown_most orders next grown in omega (arith, was, few);
  sent_all = λ some all c is m guard ne. by some all c is m guard ne grown;
  from = from;
}
  where
    by : 0 < sent → sent ≡ count_all next → (c : Content) → offered ≡ Some c → (m : ℕ) → scope.guards e g m ≡ true
        → m ≢ g → HaveGrown orders next → Contains pool (packet g m (certificate_of g e slot c next))
    by some all c is m guard ne (inl same) =
        subst (λ o. Contains pool (packet g m (certificate_of g e slot c o))) (sym same)
        (k.sent_all some (all ∙ ap count_all same) c is m guard ne)
    by some all c is m guard ne (inr more) = absurd (let was = k.most in omega (arith, was, all, more))

-- an order that the host makes of its own offer
pub order_collects : {S : Type 0} (setting : Setting S) (pool : List Sent) (injected : List Given) (g : ℕ) (ledger : List Entry) (v : View)
    (content : Content) → IsSound setting g ledger v → is_honest setting g ≡ true → g < 32
    → to_order setting.scope v g ≡ Some content → OfView setting.scope pool injected g v
    → OfDesk setting.scope pool injected g v.epoch (length_of v g)
    (with_order (v.me == g) v.me content (own_tags setting.scope v g (body.Filled kind.Order g (length_of v g) content)) (v.desks g))
unfolding with_order
order_collects {S} setting pool injected g ledger v content sound honest low enabled k =
    subst (λ o. IsCollecting setting.scope pool injected g v.epoch (length_of v g) desk.offered (Some content) o desk.sent) (sym orders_are)
    (more_collect setting.scope pool injected g v.epoch (length_of v g) desk.offered desk.ordered (Some content) desk.orders next desk.sent k
    (seat_grown v.me tags desk.orders)
    (λ c made. subst (λ m. (t : List (ℕ × List ℕ)) × (seat_of next m ≡ Some t)) me
    (seat_there next v.me (with_seat_takes v.me tags desk.orders (let seats = (sound.seats.desks g).orders in omega (arith, me, low, seats)))))
    from)
  where
    desk : Desk
    desk = v.desks g

    me : v.me ≡ g
    me = sound.own.host

    tags : List (ℕ × List ℕ)
    tags = own_tags setting.scope v g (body.Filled kind.Order g (length_of v g) content)

    next : List (Option (List (ℕ × List ℕ)))
    next = with_seat v.me tags desk.orders

    offered : desk.offered ≡ Some content
    offered =
        let held = (orders_by_makers setting.scope v g content sound.seats enabled).0 in
        let said = (sound.hears.desks g).held content held low honest in
        elim (sound.own.own.said Offered g (length_of v g) content said) [
          | inl past ↦ absurd (omega (arith, past))
          | inr kept ↦ kept.1
        ]

    orders_are : (if (v.me == g) && is_content desk.offered content then with_seat v.me tags desk.orders else desk.orders) ≡ next
    orders_are =
        ap (λ (b : Bool). if b && is_content desk.offered content then with_seat v.me tags desk.orders else desk.orders)
        ((Decides-eqb v.me g).1 me)
        ∙ ap (λ (b : Bool). if b then with_seat v.me tags desk.orders else desk.orders) (is_offer desk.offered content offered)

    from : (m : ℕ) (t : List (ℕ × List ℕ)) → seat_of next m ≡ Some t → (c : Content) → desk.offered ≡ Some c
        → IsFrom setting.scope pool injected g v.epoch (length_of v g) c m t
    from m t get c is = elim (with_seat_case v.me tags desk.orders m t get) [
      | inl old ↦ k.from m t old c is
      | inr new ↦
          let both = sym offered ∙ is in
          let same : content ≡ c = cc in
          inr (
            new.0 ∙ me,
            sym new.1
                ∙ (ap (λ x. tags_for setting.scope x (said_in v.epoch (body.Filled kind.Order g (length_of v g) content)) (guards_of setting.scope v.epoch g)) me
                ∙ ap (λ x. host_tags setting.scope g v.epoch (length_of v g) x) same),
          )
    ]

-- a certificate that is sent
pub certificate_collects : {S : Type 0} (setting : Setting S) → AreHosts setting.scope → (pool : List Sent) (injected : List Given) (g : ℕ) (ledger : List Entry) (v : View)
    (content : Content) → IsSound setting g ledger v → to_certify setting.scope v g ≡ Some content
    → OfView setting.scope pool injected g v
    → OfDesk setting.scope (pool ++ (acts_of setting.scope v (Certificate g content)).packets) injected g v.epoch (length_of v g) (with_sent (v.desks g))
unfolding with_sent certifying certificate
certificate_collects {S} setting hosts pool injected g ledger v content sound enabled k = record {
  own = k.own;
  most = omega arith;
  sent_all = λ some all c is m guard ne.
      Contains-append_right pool (acts_of setting.scope v (Certificate g content)).packets (packet g m (certificate_of g v.epoch (length_of v g) c (v.desks g).orders))
      (let both = sym own.offered ∙ is in
      let same : content ≡ c = cc in
      subst (λ x. Contains (acts_of setting.scope v (Certificate g content)).packets (packet x m (certificate_of g v.epoch (length_of v g) c (v.desks g).orders))) me
      (subst (λ x. Contains (acts_of setting.scope v (Certificate g content)).packets (packet v.me m (certificate_of g v.epoch (length_of v g) x (v.desks g).orders))) same
      (packet_among v.me (certificate v g content) _ m
      (among_others v.me _ m (guard_among setting.scope hosts v.epoch g m guard) (λ at. ne (at ∙ me))))));
  from = (collecting_more setting.scope pool (acts_of setting.scope v (Certificate g content)).packets injected g v.epoch (length_of v g) _ _ _ _ k).from;
}
  where
    me : v.me ≡ g
    me = sound.own.host

    own : IsOwnOrdered setting.scope v g content
    own = certifies_by_makers setting.scope v g content sound.seats enabled

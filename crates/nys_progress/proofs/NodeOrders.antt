-- Each record of an Order that an honest node sends for an unspoiled slot of an honest host is well formed and whole.
use Rattle.std.proofs.Common.{◌≡◌, ◌≢◌, ℕ, ◌<◌, ◌≤◌, true, List, [], ◌∷◌, length, Some, refl, ap, sym, subst, ◌∙◌, arith}
use Rattle.std.specs.Prelude.{Option}
use Rattle.std.proofs.lemmas.List.Elements.{All-cons, All-nil}
use Rattle.nys_bytes.specs.declared.content.Content.{Content}
use Rattle.nys_votes.specs.Seats.{count_all, seat_of}
use Rattle.nys_stmt.specs.declared.records.Record.{Record}
use Rattle.nys_stmt.specs.declared.statement.Body.{Body}
use Rattle.nys_stmt.specs.declared.statement.Body.TheVariants as body
use Rattle.nys_stmt.specs.declared.statement.FilledKind.TheVariants as kind
use Rattle.nys_stmt.specs.declared.tags.Tags.{Tags}
use Rattle.nys_stmt.specs.Records.{record_spelling}
use Rattle.nys_rules.specs.Exchanges.{IsOrderRecord, IsUnspoiled}
use Rattle.nys_rules.specs.Premises.{HasGoodGuards}
use Rattle.nys_rules.specs.Rules.{to_order}
use Rattle.nys_rules.specs.Scope.{guards_of, olympus, Scope}
use Rattle.nys_rules.specs.Sending.{own_record, packet, said_in, tags_for}
use Rattle.nys_rules.specs.Taking.{certificate}
use Rattle.nys_rules.specs.View.{length_of, View}
use Rattle.nys_rules.specs.World.{is_honest, Setting, World}
use Rattle.nys_rules.proofs.CertificateLemmas.{orders_by_makers}
use Rattle.nys_laws.specs.Grounds.{IsLiveAt, IsOpenAt}
use Rattle.nys_laws.specs.Own.{body_at, HasSaid}
use Rattle.nys_laws.specs.Own.Stage.{Offered, Ordered}
use Rattle.nys_laws.specs.Rests.{IsSound}
use Rattle.nys_laws.specs.SetUp.{AreHosts}
use Rattle.nys_laws.proofs.OpenLemmas.{order_open}
use Rattle.nys_progress.specs.Carried.{HasTags, IsCarried}
use Rattle.nys_progress.specs.FourExchanges.{IsWholeEntry}
use Rattle.nys_progress.specs.Sent.{SaidIsSent, telling}
use Rattle.nys_progress.proofs.BoundedViews.{IsBounded}
use Rattle.nys_progress.proofs.CertificateStage.{certificate_whole, IsGathered}
use Rattle.nys_progress.proofs.CollectedDesks.{certificate_of, IsFrom, OfView}
use Rattle.nys_progress.proofs.GoodOrders.{AreGood, IsGoodOrder, ReadsGood, spelled_good, whole_of}
use Rattle.nys_progress.proofs.OrderHeads.{headed}
use Rattle.nys_progress.proofs.OrderMarks.{some_seated}
use Rattle.nys_progress.proofs.ReadRecords.{is_record, IsTold, told_record, told_tags, told_to, told_verifies}
use Rattle.nys_progress.proofs.TellingNodes.{Certifies, Else, IsCertifying, IsTelling, Made, Makes, order_of}

-- a scenario, and an honest host with a content that can be read
pub record IsAsked {S : Type 0} (setting : Setting S) (h : ℕ) (content : Content) : Type 0 where
  pub hosts : AreHosts setting.scope
  pub good : HasGoodGuards setting.scope
  pub tags : HasTags setting.scope
  pub host : h < setting.scope.rules.hosts
  pub honest : is_honest setting h ≡ true
  pub carried : IsCarried content

-- the slot is unspoiled, and the host offered nothing else there
pub record IsPure {S : Type 0} (setting : Setting S) (e h s : ℕ) (content : Content) (w : World) : Type 0 where
  pub unspoiled : IsUnspoiled w e h s
  pub one : (c : Content) → HasSaid w.ledger h Offered e h s c → c ≡ content

-- the node of g in the world, and what is known of it
pub record IsKnown {S : Type 0} (setting : Setting S) (w : World) (g : ℕ) (v : View) : Type 0 where
  pub honest : is_honest setting g ≡ true
  pub bounded : IsBounded setting.scope g v
  pub sound : g ≢ olympus → IsSound setting g w.ledger v
  pub collecting : g < 32 → OfView setting.scope w.pool w.injected g v
  pub sent : SaidIsSent setting w

-- an Order that reads as one for slot s of h is one for it
order_here : (n k i : ℕ) (c : Content) (makers : List Tags) (e h s : ℕ) → n ≤ 63 → k ≤ 31 → i ≤ 1023
    → IsOrderRecord (record_spelling (record { statement = said_in n (body.Filled kind.Order k i c); makers = makers })) e h s
    → (n ≡ e) × (k ≡ h) × (i ≡ s)
order_here n k i c makers e h s few low room is =
    let x = headed (record { statement = said_in n (body.Filled kind.Order k i c); makers = makers }) e h s is in
    let says = x.says in
    let host : k ≡ x.host = cc in
    let slot : i ≡ x.slot = cc in
    let all = x.same few (omega (arith, low, host)) (omega (arith, room, slot)) in (all.0, host ∙ all.1, slot ∙ all.2)

-- what another guard tells the host in its Order
order_told : {S : Type 0} (setting : Setting S) (e h s : ℕ) (content : Content) → IsAsked setting h content → e < setting.scope.epochs
    → s < 1024 → (g : ℕ) → g < setting.scope.rules.hosts → g ≢ h → IsTold setting.scope Ordered e h s content g h
order_told setting e h s content asked epoch room g low ne = record {
  hosts = asked.hosts;
  tags = asked.tags;
  carried = asked.carried;
  epoch = epoch;
  host = asked.host;
  room = room;
  maker = low;
  taker = (asked.good e epoch).own h asked.host;
  other = ne;
}

-- the Order of another guard is well formed and whole
order_good : {S : Type 0} (setting : Setting S) (e h s : ℕ) (content : Content) (g : ℕ)
    → IsTold setting.scope Ordered e h s content g h
    → IsGoodOrder setting e h (told_record setting.scope Ordered e h s content g)
unfolding own_record
order_good setting e h s content g t =
    let said = said_in e (body_at Ordered h s content) in
    let one : Tags = record { maker = g; tags = told_tags setting.scope Ordered e h s content g } in record {
      well = is_record setting.scope Ordered e h s content g h t;
      whole = All-cons (IsWholeEntry setting e h said) one []
          (λ honest x guards ne.
          told_verifies setting.scope Ordered e h s content g x (told_to setting.scope Ordered e h s content g h x t guards (λ at. ne (sym at))))
          (All-nil (IsWholeEntry setting e h said));
    }

-- a node that guards a host is a host's
guard_low : {S : Type 0} (setting : Setting S) (h : ℕ) (content : Content) → IsAsked setting h content → (w : World) (g : ℕ) (v : View)
    → IsKnown setting w g v → (k : ℕ) → IsLiveAt setting.scope v k → g < setting.scope.rules.hosts
guard_low setting h content asked w g v known k live =
    subst (λ x. x < setting.scope.rules.hosts) known.bounded.me (asked.hosts.guards v.epoch k v.me live.guard)

-- it isn't the Olympus
guard_other : {S : Type 0} (setting : Setting S) (h : ℕ) (content : Content) → IsAsked setting h content → (w : World) (g : ℕ) (v : View)
    → IsKnown setting w g v → (k : ℕ) → IsLiveAt setting.scope v k → g ≢ olympus
guard_other setting h content asked w g v known k live is =
    let low = guard_low setting h content asked w g v known k live in
    let few = asked.hosts.few in omega (arith, low, few, is)

-- the epoch of a node and a host that it guards are in the ranges of a record
in_ranges : {S : Type 0} (setting : Setting S) (h : ℕ) (content : Content) → IsAsked setting h content → (w : World) (g : ℕ) (v : View)
    → IsKnown setting w g v → (k : ℕ) → IsLiveAt setting.scope v k → (v.epoch ≤ 63) × (k ≤ 31)
in_ranges setting h content asked w g v known k live =
    let epoch = known.bounded.epoch in
    let epochs = asked.tags.epochs in
    let low = live.host in
    let few = asked.hosts.few in (omega (arith, epoch, epochs), omega (arith, low, few))

-- ---- what a node sends

-- an Order that it makes
makes_good : {S : Type 0} (setting : Setting S) (e h s : ℕ) (content : Content) → IsAsked setting h content
    → (w : World) (g : ℕ) (v : View) → IsKnown setting w g v → IsPure setting e h s content w → (to : ℕ) (c : Content)
    → to_order setting.scope v to ≡ Some c → to ≢ v.me
    → ReadsGood setting e h s (record_spelling (order_of setting.scope v to c))
unfolding own_record
makes_good {S} setting e h s content asked w g v known pure to c may other is =
    subst (λ (r : Record). ReadsGood setting e h s (record_spelling r)) (sym same) (spelled_good setting e h s _ good) is
  where
    at : IsOpenAt setting.scope v to
    at = order_open setting.scope v to c may

    ranges : (v.epoch ≤ 63) × (to ≤ 31)
    ranges = in_ranges setting h content asked w g v known to at.live

    here : (v.epoch ≡ e) × (to ≡ h) × (length_of v to ≡ s)
    here = order_here v.epoch to (length_of v to) c _ e h s ranges.0 ranges.1 (let room = at.room in omega (arith, room)) is

    me : v.me ≡ g
    me = known.bounded.me

    sound : IsSound setting g w.ledger v
    sound = known.sound (guard_other setting h content asked w g v known to at.live)

    held : (v.desks to).held ≡ Some c
    held = (orders_by_makers setting.scope v to c sound.seats may).0

    said : HasSaid w.ledger to Offered v.epoch to (length_of v to) c
    said = (sound.hears.desks to).held c held (let low = ranges.1 in omega (arith, low))
        (subst (λ x. is_honest setting x ≡ true) (sym here.1) asked.honest)

    content_is : c ≡ content
    content_is = pure.one c
        (subst (λ i. HasSaid w.ledger h Offered e h i c) here.2
        (subst (λ x. HasSaid w.ledger x Offered e x (length_of v to) c) here.1
        (subst (λ n. HasSaid w.ledger to Offered n to (length_of v to) c) here.0 said)))

    good : IsGoodOrder setting e h (told_record setting.scope Ordered e h s content g)
    good = order_good setting e h s content g
        (order_told setting e h s content asked (subst (λ n. n < setting.scope.epochs) here.0 known.bounded.epoch)
        (subst (λ i. i < 1024) here.2 at.room) g (guard_low setting h content asked w g v known to at.live)
        (λ is_host. other (here.1 ∙ (sym is_host ∙ sym me))))

    same : order_of setting.scope v to c ≡ told_record setting.scope Ordered e h s content g
    same =
        ap (λ i. own_record setting.scope v.me (said_in v.epoch (body.Filled kind.Order to i c)) (guards_of setting.scope v.epoch to)) here.2
        ∙ (ap (λ n. own_record setting.scope v.me (said_in n (body.Filled kind.Order to s c)) (guards_of setting.scope n to)) here.0
        ∙ (ap (λ x. own_record setting.scope v.me (said_in e (body.Filled kind.Order x s c)) (guards_of setting.scope e x)) here.1
        ∙ (ap (λ d. own_record setting.scope v.me (said_in e (body.Filled kind.Order h s d)) (guards_of setting.scope e h)) content_is
        ∙ ap (λ x. told_record setting.scope Ordered e h s content x) me)))

-- an Order that it made: that is in the pool
made_good : {S : Type 0} (setting : Setting S) (e h s : ℕ) (content : Content) → IsAsked setting h content
    → (w : World) (g : ℕ) (v : View) → IsKnown setting w g v → AreGood setting e h s w.pool → (to : ℕ) (c : Content)
    → IsLiveAt setting.scope v to → (v.desks to).ordered ≡ Some c → to ≢ v.me
    → ReadsGood setting e h s (record_spelling (order_of setting.scope v to c))
unfolding own_record
made_good {S} setting e h s content asked w g v known good to c live kept other =
    subst (λ x. ReadsGood setting e h s (record_spelling (told_record setting.scope Ordered v.epoch to (length_of v to) c x))) (sym me)
    (good (telling setting.scope g Ordered v.epoch to (length_of v to) c to)
    (known.sent g known.honest top Ordered v.epoch to (length_of v to) c said to refl (λ is. other (is ∙ sym me))))
  where
    me : v.me ≡ g
    me = known.bounded.me

    top : g ≢ olympus
    top = guard_other setting h content asked w g v known to live

    said : HasSaid w.ledger g Ordered v.epoch to (length_of v to) c
    said = (known.sound top).own.own.kept Ordered to c kept

-- the certificate of its offer
certifies_good : {S : Type 0} (setting : Setting S) (e h s : ℕ) (content : Content) → IsAsked setting h content
    → (w : World) (g : ℕ) (v : View) → IsKnown setting w g v → IsPure setting e h s content w → AreGood setting e h s w.pool
    → (to : ℕ) (r : Record) → IsCertifying setting.scope v to r → ReadsGood setting e h s (record_spelling r)
unfolding certificate
certifies_good {S} setting e h s content asked w g v known pure good to r c is =
    subst (λ (x : Record). ReadsGood setting e h s (record_spelling x)) (sym same)
    (spelled_good setting e h s (certificate_of h e s content orders) (certificate_whole setting w e h s content to orders gathered)) is
  where
    me : v.me ≡ g
    me = known.bounded.me

    orders : List (Option (List (ℕ × List ℕ)))
    orders = (v.desks v.me).orders

    ranges : (v.epoch ≤ 63) × (v.me ≤ 31)
    ranges = in_ranges setting h content asked w g v known v.me c.live

    room : length_of v v.me < 1024
    room = known.bounded.room v.me c.content c.offered

    here : (v.epoch ≡ e) × (v.me ≡ h) × (length_of v v.me ≡ s)
    here = order_here v.epoch v.me (length_of v v.me) c.content _ e h s ranges.0 ranges.1 (omega (arith, room))
        (subst (λ (x : Record). IsOrderRecord (record_spelling x) e h s) c.r_is is)

    top : g ≢ olympus
    top = guard_other setting h content asked w g v known v.me c.live

    sound : IsSound setting g w.ledger v
    sound = known.sound top

    content_is : c.content ≡ content
    content_is = pure.one c.content
        (subst (λ i. HasSaid w.ledger h Offered e h i c.content) here.2
        (subst (λ x. HasSaid w.ledger x Offered e x (length_of v v.me) c.content) here.1
        (subst (λ n. HasSaid w.ledger v.me Offered n v.me (length_of v v.me) c.content) here.0
        (subst (λ x. HasSaid w.ledger x Offered v.epoch v.me (length_of v v.me) c.content) (sym me)
        (sound.own.own.kept Offered v.me c.content c.offered)))))

    same : r ≡ certificate_of h e s content orders
    same = c.r_is
        ∙ (ap (λ i. certificate_of v.me v.epoch i c.content orders) here.2
        ∙ (ap (λ n. certificate_of v.me n s c.content orders) here.0
        ∙ (ap (λ x. certificate_of x e s c.content orders) here.1
        ∙ ap (λ d. certificate_of h e s d orders) content_is)))

    seats : length orders ≡ 32
    seats = (sound.seats.desks v.me).orders

    collects : OfView setting.scope w.pool w.injected v.me v
    collects = subst (λ x. OfView setting.scope w.pool w.injected x v) (sym me)
        (known.collecting (subst (λ x. x < 32) me (let low = ranges.1 in omega (arith, low))))

    gathered : IsGathered setting w e h s content to orders
    gathered = record {
      told = record {
        hosts = asked.hosts;
        tags = asked.tags;
        carried = asked.carried;
        epoch = subst (λ n. n < setting.scope.epochs) here.0 known.bounded.epoch;
        host = asked.host;
        room = subst (λ i. i < 1024) here.2 room;
        maker = asked.host;
        taker = subst (λ x. setting.scope.guards e x to ≡ true) here.1 (subst (λ n. setting.scope.guards n v.me to ≡ true) here.0 c.guards);
        other = λ at. c.other (sym at ∙ sym here.1);
      };
      seats = seats;
      some = some_seated orders seats (c.some collects.most);
      from = λ m tags get.
          subst (λ d. IsFrom setting.scope w.pool w.injected h e s d m tags) content_is
          (subst (λ i. IsFrom setting.scope w.pool w.injected h e i c.content m tags) here.2
          (subst (λ x. IsFrom setting.scope w.pool w.injected x e (length_of v v.me) c.content m tags) here.1
          (subst (λ n. IsFrom setting.scope w.pool w.injected v.me n (length_of v v.me) c.content m tags) here.0
          (collects.from m tags get c.content c.offered))));
      whole = whole_of setting w e h s pure.unspoiled good;
    }

-- so is each record of an Order among what it sends
pub telling_good : {S : Type 0} (setting : Setting S) (e h s : ℕ) (content : Content) → IsAsked setting h content
    → (w : World) (g : ℕ) (v : View) → IsKnown setting w g v → IsPure setting e h s content w → AreGood setting e h s w.pool
    → (to : ℕ) (r : Record) → IsTelling setting.scope v to r → ReadsGood setting e h s (record_spelling r)
telling_good setting e h s content asked w g v known pure good to r (Else other) is =
    let x = headed r e h s is in absurd (other x.host x.slot x.content x.says)
telling_good setting e h s content asked w g v known pure good to r (Makes c may other r_is) is =
    subst (λ (x : Record). ReadsGood setting e h s (record_spelling x)) (sym r_is)
    (makes_good setting e h s content asked w g v known pure to c may other) is
telling_good setting e h s content asked w g v known pure good to r (Made c live kept other r_is) is =
    subst (λ (x : Record). ReadsGood setting e h s (record_spelling x)) (sym r_is)
    (made_good setting e h s content asked w g v known good to c live kept other) is
telling_good setting e h s content asked w g v known pure good to r (Certifies c) is =
    certifies_good setting e h s content asked w g v known pure good to r c is

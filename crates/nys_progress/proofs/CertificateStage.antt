-- A certificate with the whole orders of all honest guards can be read, and each honest guard that takes it counts it.
use Rattle.std.proofs.Common.{◌≡◌, ◌≢◌, ℕ, ◌+◌, ◌<◌, ◌≤◌, ◌==◌, ◌&&◌, Bool, true, false, List, length, Some, None, Ok, refl, ap, sym, subst, ◌∙◌, inl, inr, arith, le-leb, lt-ltb}
use Rattle.std.specs.Prelude.{Contains, if◌then◌else◌, is_none, nat_lt, not, Option}
use Rattle.std.specs.Option.{option_or}
use Rattle.std.proofs.lemmas.Bool.{ne_eqb}
use Rattle.std.proofs.lemmas.List.Elements.{All-contains}
use Rattle.nys_agreement.proofs.TableLemmas.{put_here}
use Rattle.nys_bytes.specs.declared.content.Content.{Content}
use Rattle.nys_hosts.specs.Counts.{hosts_with}
use Rattle.nys_votes.specs.Ordered.{is_ordered, makers_of}
use Rattle.nys_votes.specs.Seats.{seat_of}
use Rattle.nys_stmt.specs.Records.{IsMaker, IsRecord, record_spelling}
use Rattle.nys_stmt.specs.declared.records.Record.{Record}
use Rattle.nys_stmt.specs.declared.statement.Body.TheVariants as body
use Rattle.nys_stmt.specs.declared.statement.FilledKind.TheVariants as kind
use Rattle.nys_stmt.specs.declared.statement.Statement.{Statement}
use Rattle.nys_stmt.specs.declared.tags.Tags.{Tags}
use Rattle.nys_wire.proofs.Wholes.{whole_again}
use Rattle.nys_wire.specs.Reading.{whole_record}
use Rattle.nys_rules.specs.declared.cause.DropCause.{DropCause}
use Rattle.nys_rules.specs.declared.cause.DropCause.TheVariants as drop
use Rattle.nys_rules.specs.Dropping.{accepted, accepts, misplaced, untagged, verdict, verifies}
use Rattle.nys_rules.specs.Exchanges.{IsHonestGuard, IsOrderRecord}
use Rattle.nys_rules.specs.Noting.{at_desk, noted, orderers, with_certificate, with_orders}
use Rattle.nys_rules.specs.Scope.{olympus, quorum_at, Scope}
use Rattle.nys_rules.specs.Sending.{said_in}
use Rattle.nys_rules.specs.View.{is_live, is_open, length_of, View}
use Rattle.nys_rules.specs.World.{Setting, World}
use Rattle.nys_rules.proofs.CertificateLemmas.{both_true}
use Rattle.nys_laws.specs.Own.{body_at, HasSaid}
use Rattle.nys_laws.specs.Own.Stage.{Ordered}
use Rattle.nys_laws.proofs.LiveLemmas.{not_true}
use Rattle.nys_progress.specs.FourExchanges.{HasWholeOrders, IsWholeEntry}
use Rattle.nys_progress.proofs.BroughtRecords.{Marks}
use Rattle.nys_progress.proofs.CollectedDesks.{certificate_of, IsFrom, is_offer}
use Rattle.nys_progress.proofs.Exchanging.{in_filter}
use Rattle.nys_progress.proofs.GoodOrders.{IsGoodOrder}
use Rattle.nys_progress.proofs.MakerLists.{all_but_one, entry, seat_among, seats_all, seats_are_makers}
use Rattle.nys_progress.proofs.OrderMarks.{certified_kept, HasCertified}
use Rattle.nys_progress.proofs.ReadRecords.{is_maker, is_statement, IsTold, told_to, told_verifies}
use Rattle.nys_progress.proofs.TakenVotes.{IsReady, live_by, not_wedged, open_by, vote_passes}

-- orders for a content in the slot, one or more, collected by h from bytes that are there, in which they are whole; and
-- another guard g
pub record IsGathered {S : Type 0} (setting : Setting S) (w : World) (e h slot : ℕ) (content : Content) (g : ℕ)
    (orders : List (Option (List (ℕ × List ℕ)))) : Type 0 where
  pub told : IsTold setting.scope Ordered e h slot content h g
  pub seats : length orders ≡ 32
  pub some : (m : ℕ) × (tags : List (ℕ × List ℕ)) × (seat_of orders m ≡ Some tags)
  pub from : (m : ℕ) (tags : List (ℕ × List ℕ)) → seat_of orders m ≡ Some tags
      → IsFrom setting.scope w.pool w.injected h e slot content m tags
  pub whole : HasWholeOrders setting w e h slot

-- the orders of all honest guards of h are among them, and h and g are honest
pub record IsCollected {S : Type 0} (setting : Setting S) (w : World) (e h slot : ℕ) (content : Content) (g : ℕ)
    (orders : List (Option (List (ℕ × List ℕ)))) : Type 0 where
  pub gathered : IsGathered setting w e h slot content g orders
  pub guard : IsHonestGuard setting e h g
  pub host : IsHonestGuard setting e h h
  pub all : (m : ℕ) → IsHonestGuard setting e h m → (tags : List (ℕ × List ℕ)) × (seat_of orders m ≡ Some tags)

-- the statement of an Order
abbrev order_of : (e h slot : ℕ) → Content → Statement
order_of e h slot content = said_in e (body.Filled kind.Order h slot content)

-- each entry has tags that can be spelled
entry_is : {S : Type 0} (setting : Setting S) (w : World) (e h slot : ℕ) (content : Content) (g : ℕ)
    (orders : List (Option (List (ℕ × List ℕ)))) → IsGathered setting w e h slot content g orders
    → (m : ℕ) (tags : List (ℕ × List ℕ)) → seat_of orders m ≡ Some tags → IsMaker (entry m tags)
entry_is {S} setting w e h slot content g orders c m tags get = by (c.from m tags get)
  where
    by : IsFrom setting.scope w.pool w.injected h e slot content m tags → IsMaker (entry m tags)
    by (inl read) =
        let well = c.whole.well read.frame read.there (record { r = read.r; content = content; reads = read.reads; statement = read.says }) in
        All-contains IsMaker read.r.makers (entry m tags) well.each read.among
    by (inr own) =
        subst (λ n. IsMaker (entry n tags)) (sym own.0)
        (subst (λ ts. IsMaker (entry h ts)) (sym own.1) (is_maker setting.scope Ordered e h slot content h g c.told))

-- so the certificate is a record
certificate_is : {S : Type 0} (setting : Setting S) (w : World) (e h slot : ℕ) (content : Content) (g : ℕ)
    (orders : List (Option (List (ℕ × List ℕ)))) → IsGathered setting w e h slot content g orders
    → IsRecord (certificate_of h e slot content orders)
certificate_is setting w e h slot content g orders c =
    let among = seat_among orders c.some.0 c.some.1 c.some.2 in record {
      statement = is_statement setting.scope Ordered e h slot content h g c.told;
      some = let place = among.1 in omega (arith, place);
      rule = seats_are_makers orders (omega (arith, c.seats));
      each = seats_all IsMaker orders (entry_is setting w e h slot content g orders c);
    }

-- that is read from its bytes
pub certificate_read : {S : Type 0} (setting : Setting S) (w : World) (e h slot : ℕ) (content : Content) (g : ℕ)
    (orders : List (Option (List (ℕ × List ℕ)))) → IsGathered setting w e h slot content g orders
    → whole_record (record_spelling (certificate_of h e slot content orders)) ≡ Ok (certificate_of h e slot content orders)
certificate_read setting w e h slot content g orders c =
    whole_again (certificate_of h e slot content orders) (certificate_is setting w e h slot content g orders c)

-- each entry is whole
entry_whole : {S : Type 0} (setting : Setting S) (w : World) (e h slot : ℕ) (content : Content) (g : ℕ)
    (orders : List (Option (List (ℕ × List ℕ)))) → IsGathered setting w e h slot content g orders
    → (m : ℕ) (tags : List (ℕ × List ℕ)) → seat_of orders m ≡ Some tags
    → IsWholeEntry setting e h (order_of e h slot content) (entry m tags)
entry_whole {S} setting w e h slot content g orders c m tags get honest x guards ne = by (c.from m tags get)
  where
    by : IsFrom setting.scope w.pool w.injected h e slot content m tags
        → verifies setting.scope x (order_of e h slot content) (entry m tags) ≡ true
    by (inl read) =
        let is : IsOrderRecord read.frame e h slot = record { r = read.r; content = content; reads = read.reads; statement = read.says } in
        subst (λ s. verifies setting.scope x s (entry m tags) ≡ true) read.says
        (All-contains (IsWholeEntry setting e h read.r.statement) read.r.makers (entry m tags)
        (c.whole.whole read.frame read.there is) read.among honest x guards ne)
    by (inr own) =
        subst (λ n. verifies setting.scope x (order_of e h slot content) (entry n tags) ≡ true) (sym own.0)
        (subst (λ ts. verifies setting.scope x (order_of e h slot content) (entry h ts) ≡ true) (sym own.1)
        (told_verifies setting.scope Ordered e h slot content h x (told_to setting.scope Ordered e h slot content h g x c.told guards (λ at. ne (sym at ∙ sym own.0)))))

-- so what is read of the certificate is a record with whole entries
pub certificate_whole : {S : Type 0} (setting : Setting S) (w : World) (e h slot : ℕ) (content : Content) (g : ℕ)
    (orders : List (Option (List (ℕ × List ℕ)))) → IsGathered setting w e h slot content g orders
    → IsGoodOrder setting e h (certificate_of h e slot content orders)
certificate_whole setting w e h slot content g orders c = record {
  well = certificate_is setting w e h slot content g orders c;
  whole = seats_all (IsWholeEntry setting e h (order_of e h slot content)) orders (entry_whole setting w e h slot content g orders c);
}

-- the guard accepts the entry of each other honest guard
entry_accepted : {S : Type 0} (setting : Setting S) (w : World) (e h slot : ℕ) (content : Content) (g : ℕ)
    (orders : List (Option (List (ℕ × List ℕ)))) → IsCollected setting w e h slot content g orders
    → (m : ℕ) → IsHonestGuard setting e h m → m ≢ g
    → (t : Tags) × Contains (accepted setting.scope e g (certificate_of h e slot content orders)) t × (t.maker ≡ m)
unfolding accepted accepts
entry_accepted {S} setting w e h slot content g orders c m maker ne =
    (one, in_filter (accepts setting.scope e g (order_of e h slot content)) (makers_of orders) one passes (seat_among orders m seat.0 seat.1), refl)
  where
    seat : (tags : List (ℕ × List ℕ)) × (seat_of orders m ≡ Some tags)
    seat = c.all m maker

    one : Tags
    one = entry m seat.0

    passes : (not (m == g) && (setting.scope.guards e h m && verifies setting.scope g (order_of e h slot content) one)) ≡ true
    passes =
        ap (λ (b : Bool). not b && (setting.scope.guards e h m && verifies setting.scope g (order_of e h slot content) one)) (ne_eqb m g ne)
        ∙ (ap (λ (b : Bool). b && verifies setting.scope g (order_of e h slot content) one) maker.guards
        ∙ entry_whole setting w e h slot content g orders c.gathered m seat.0 seat.1 maker.honest g c.guard.guards (λ at. ne (sym at)))

-- what is known of a certificate where a guard takes it: it is read, and all honest guards but the guard are accepted
pub record IsCertificateFor {S : Type 0} (setting : Setting S) (e h slot : ℕ) (content : Content) (g : ℕ)
    (orders : List (Option (List (ℕ × List ℕ)))) : Type 0 where
  pub reads : whole_record (record_spelling (certificate_of h e slot content orders)) ≡ Ok (certificate_of h e slot content orders)
  pub host : h < setting.scope.rules.hosts
  pub room : slot < 1024
  pub other : g ≢ h
  pub guard : IsHonestGuard setting e h g
  pub taker : g ≢ olympus
  pub some : 0 < length (accepted setting.scope e g (certificate_of h e slot content orders))
  pub enough : quorum_at setting.scope e h ≤ length (accepted setting.scope e g (certificate_of h e slot content orders)) + 1

-- a list with a member has one
pub some_member : {A : Type 0} (xs : List A) (x : A) → Contains xs x → 0 < length xs
some_member xs x among = let place = among.1 in omega (arith, place)

-- the certificate is counted where the slot is the one behind the log and the guard has ordered the content
certificate_noted : {S : Type 0} (setting : Setting S) (e h slot : ℕ) (content : Content) (g : ℕ)
    (orders : List (Option (List (ℕ × List ℕ)))) (w : World)
    → IsCertificateFor setting e h slot content g orders → IsReady setting e h slot g w → HasSaid w.ledger g Ordered e h slot content
    → (w.nodes g).epoch ≡ e → length_of (w.nodes g) h ≡ slot
    → (verdict setting.scope (w.nodes g) (certificate_of h e slot content orders) ≡ None)
    × HasCertified ((noted setting.scope (w.nodes g) (certificate_of h e slot content orders)).desks h)
unfolding verdict misplaced noted with_certificate
certificate_noted {S} setting e h slot content g orders w t r said now at = (passes, has)
  where
    v : View
    v = w.nodes g

    scope : Scope S
    scope = setting.scope

    told : Record
    told = certificate_of h e slot content orders

    me : v.me ≡ g
    me = r.votes.sound.own.host

    makers : List Tags
    makers = accepted scope e v.me told

    active : v.wedged ≡ false
    active = not_wedged setting e g w r.on t.taker now

    live : is_live scope v h ≡ true
    live = live_by scope v h t.host
        (subst (λ n. scope.guards n h v.me ≡ true) (sym now) (subst (λ x. scope.guards e h x ≡ true) (sym me) t.guard.guards))
        (r.here.here now).lives

    opened : is_open scope v h ≡ true
    opened = let low = (r.here.here now).above in let room = t.room in
        open_by scope v h live active (omega (arith, low, at)) (omega (arith, room, at))

    some : 0 < length makers
    some = subst (λ x. 0 < length (accepted scope e x told)) (sym me) t.some

    tagged : (b : Bool) → b ≡ true → (if b then None else Some drop.NoTag) ≡ None
    tagged true is = refl
    tagged false is = absurd (cc)

    passes : verdict scope v told ≡ None
    passes =
        ap (λ (o : Option DropCause). option_or o (untagged makers)) (vote_passes scope v e h slot now active live opened at)
        ∙ tagged (nat_lt 0 (length makers)) (lt-ltb 0 (length makers) some)

    ordered : (v.desks h).ordered ≡ Some content
    ordered = elim (r.votes.sound.own.own.said Ordered h slot content
        (subst (λ n. HasSaid w.ledger g Ordered n h slot content) (sym now) said)) [
          | inl past ↦ absurd (omega (arith, past, at))
          | inr kept ↦ kept.1
        ]

    counts : orderers content makers (v.desks h) ≡ length makers + 1
    counts = ap (λ (b : Bool). length makers + (if b then 1 else 0)) (is_offer (v.desks h).ordered content ordered)

    enough : quorum_at scope v.epoch h ≤ orderers content makers (v.desks h)
    enough =
        let most = subst (λ x. quorum_at scope e h ≤ length (accepted scope e x told) + 1) (sym me) t.enough in
        let same = ap (λ n. quorum_at scope n h) now in
        omega (arith, most, same, counts)

    other : (v.me == h) ≡ false
    other = ne_eqb v.me h (λ is. t.other (sym me ∙ is))

    desk_is : (b : Bool) → b ≡ false
        → (if b then at_desk h (with_orders content makers) v
        else at_desk h (with_certificate (quorum_at scope v.epoch h) content makers) v).desks h
        ≡ with_certificate (quorum_at scope v.epoch h) content makers (v.desks h)
    desk_is false is = put_here v.desks h (with_certificate (quorum_at scope v.epoch h) content makers (v.desks h))
    desk_is true is = absurd (cc)

    counted : (o : Option Content) → (v.desks h).certified ≡ o → (b : Bool) → b ≡ true
        → HasCertified (if b && is_none (v.desks h).certified then record (v.desks h) { certified = Some content } else v.desks h)
    counted (Some c) is b enough_is =
        subst (λ x. HasCertified (if x then record (v.desks h) { certified = Some content } else v.desks h))
        (sym (ap (λ (o : Option Content). b && is_none o) is ∙ no (b))) (c, is)
      where
        no : (x : Bool) → (x && false) ≡ false
        no true = refl
        no false = refl
    counted None is true enough_is =
        subst (λ x. HasCertified (if x then record (v.desks h) { certified = Some content } else v.desks h))
        (sym (ap (λ (o : Option Content). is_none o) is)) (content, refl)
    counted None is false enough_is = absurd (cc)

    has : HasCertified ((noted scope v told).desks h)
    has = subst HasCertified (sym (desk_is (v.me == h) other))
        (counted (v.desks h).certified refl (is_ordered (quorum_at scope v.epoch h) (orderers content makers (v.desks h)))
        (le-leb (quorum_at scope v.epoch h) (orderers content makers (v.desks h)) enough))

-- so its packet marks the guard's desk
pub certificate_marks : {S : Type 0} (setting : Setting S) (e h slot : ℕ) (content : Content) (g : ℕ)
    (orders : List (Option (List (ℕ × List ℕ)))) → IsCertificateFor setting e h slot content g orders
    → Marks setting e h slot g HasCertified (record_spelling (certificate_of h e slot content orders))
    (certificate_of h e slot content orders) g (said_in e (body_at Ordered h slot content))
certificate_marks setting e h slot content g orders t = record {
  kept = certified_kept;
  reads = t.reads;
  notes = λ w ready has now at. certificate_noted setting e h slot content g orders w t ready has now at;
}

-- a certificate that was collected so is one for the guard
pub certificate_for : {S : Type 0} (setting : Setting S) (w : World) (e h slot : ℕ) (content : Content) (g : ℕ)
    (orders : List (Option (List (ℕ × List ℕ)))) → IsCollected setting w e h slot content g orders → g ≢ olympus
    → ((m : ℕ) → setting.scope.guards e h m ≡ true → setting.liars m ≡ false → IsHonestGuard setting e h m)
    → quorum_at setting.scope e h ≤ hosts_with (λ m. setting.scope.guards e h m && not (setting.liars m))
    → IsCertificateFor setting e h slot content g orders
certificate_for {S} setting w e h slot content g orders c taker honest many = record {
  reads = certificate_read setting w e h slot content g orders c.gathered;
  host = c.gathered.told.host;
  room = c.gathered.told.room;
  other = λ is. c.gathered.told.other (sym is);
  guard = c.guard;
  taker = taker;
  some = let one = entry_accepted setting w e h slot content g orders c h c.host c.gathered.told.other in some_member _ one.0 one.1;
  enough =
      let most = all_but_one (λ m. setting.scope.guards e h m && not (setting.liars m)) g
      (accepted setting.scope e g (certificate_of h e slot content orders))
      (λ m among ne.
      let parts = both_true (setting.scope.guards e h m) (not (setting.liars m)) among in
      entry_accepted setting w e h slot content g orders c m (honest m parts.0 (not_true (setting.liars m) parts.1)) ne) in
      omega (arith, many, most);
}

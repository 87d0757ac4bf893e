-- In each world a host keeps of the orders that it collects what their entries and its certificates are.
use Rattle.std.proofs.Common.{◌≡◌, ◌≢◌, ℕ, zero, suc, ◌<◌, ◌==◌, ◌&&◌, Bool, true, false, List, [], ◌∷◌, ◌++◌, length, Some, None, refl, ap, sym, subst, ◌∙◌, inl, inr, arith}
use Rattle.std.specs.Prelude.{Contains, if◌then◌else◌, is_none, Option, slice_get}
use Rattle.std.proofs.lemmas.Bool.{cases_eq}
use Rattle.nys_agreement.proofs.TableLemmas.{put_case, put_here, put_there}
use Rattle.nys_bytes.specs.declared.content.Content.{Content}
use Rattle.nys_source.specs.Tables.{put}
use Rattle.nys_votes.specs.Ordered.{is_ordered}
use Rattle.nys_votes.specs.Seats.{seat_of}
use Rattle.nys_stmt.specs.declared.records.Record.{Record}
use Rattle.nys_stmt.specs.declared.statement.Body.{Body}
use Rattle.nys_stmt.specs.declared.statement.Body.TheVariants as body
use Rattle.nys_stmt.specs.declared.statement.FilledKind.TheVariants as kind
use Rattle.nys_stmt.specs.declared.tags.Tags.{Tags}
use Rattle.nys_rules.specs.declared.rule.Rule.{Rule}
use Rattle.nys_rules.specs.declared.rule.Rule.TheVariants.{Attest, Certificate, Deliver, Log, Offer, Order}
use Rattle.nys_rules.specs.Asking.{questions}
use Rattle.nys_rules.specs.Dropping.{accepted, accepts, misplaced, misplaced_body, untagged, verdict}
use Rattle.nys_rules.specs.Evidence.{IsFrameOf}
use Rattle.nys_rules.specs.Forged.{Entry}
use Rattle.nys_rules.specs.Handling.{acts_by, with_input}
use Rattle.nys_rules.specs.Heads.{with_heads}
use Rattle.nys_rules.specs.Logging.{logged}
use Rattle.nys_rules.specs.Noting.{at_desk, collected, is_content, noted, noted_body, orderers, with_attests, with_certificate, with_held, with_orders, with_votes}
use Rattle.nys_rules.specs.Packets.{Acts, Given, nothing, Sent}
use Rattle.nys_rules.specs.Rules.{due, to_certify, to_order}
use Rattle.nys_rules.specs.Scope.{olympus, quorum_at, Scope}
use Rattle.nys_rules.specs.Sending.{said_in}
use Rattle.nys_rules.specs.Taking.{acts_of, own_tags, taken, with_deliver, with_offer, with_order, with_sent}
use Rattle.nys_rules.specs.View.{Desk, empty_desk, entering, first_view, length_of, View, with_links}
use Rattle.nys_rules.specs.World.{fresh_world, is_honest, Setting, World}
use Rattle.nys_rules.proofs.DueLemmas.{due_enabled}
use Rattle.nys_rules.proofs.SearchLemmas.{or_none}
use Rattle.nys_rules.proofs.SeatCases.{collected_case, seats_keep}
use Rattle.nys_laws.specs.Rests.{IsSound}
use Rattle.nys_laws.specs.SetUp.{AreHosts}
use Rattle.nys_laws.specs.Worlds.{InEachWorld}
use Rattle.nys_laws.proofs.EventKeeping.{WorldsKeep}
use Rattle.nys_laws.proofs.GrownLemmas.{with_step}
use Rattle.nys_laws.proofs.HeardLemmas.{vote_is}
use Rattle.nys_laws.proofs.NodesInWorlds.{nodes_keep}
use Rattle.nys_laws.proofs.RestsWorlds.{are_sound, sound_steps}
use Rattle.nys_laws.proofs.ViewLemmas.{offer_new}
use Rattle.nys_laws.proofs.WorldKeeping.{HoldsOfNodes}
use Rattle.nys_evidence.proofs.SeenLemmas.{in_list}
use Rattle.nys_evidence.proofs.TakeKeeping.{in_each_taken, IsTaken, TakesKeep}
use Rattle.nys_progress.specs.FourExchanges.{AreThere}
use Rattle.nys_progress.proofs.CollectedDesks.{certificate_collects, collecting_given, collecting_more, empty_collects, IsFrom, IsReadThere, more_collect, OfDesk, offer_collects, offer_is, OfView, order_collects}
use Rattle.nys_progress.proofs.OrderMarks.{collected_grown}

-- ---- each rule

-- a desk of this host or another
desk_collects : {S : Type 0} (scope : Scope S) (pool : List Sent) (injected : List Given) (g e slot x : ℕ) (desks : ℕ → Desk) (change : ℕ → Desk)
    → (g ≡ x → OfDesk scope pool injected g e slot (change g)) → OfDesk scope pool injected g e slot (desks g)
    → OfDesk scope pool injected g e slot (put desks x (change x) g)
desk_collects scope pool injected g e slot x desks change here there =
    put_case (OfDesk scope pool injected g e slot) desks x (change x) g
    (λ same. subst (λ y. OfDesk scope pool injected g e slot (change y)) same (here same)) (λ ne. there)

-- a log that takes an entry, of this host or another
log_collects : {S : Type 0} (scope : Scope S) (pool : List Sent) (injected : List Given) (g e x : ℕ) (desks : ℕ → Desk)
    (logs : ℕ → List Content) (log : List Content) → OfDesk scope pool injected g e (length (logs g)) (desks g)
    → OfDesk scope pool injected g e (length (put logs x log g)) (put desks x empty_desk g)
log_collects scope pool injected g e x desks logs log k = elim (cases_eq g x) [
  | inl same ↦
      let empty : put desks x empty_desk g ≡ empty_desk =
      ap (put desks x empty_desk) same ∙ put_here desks x empty_desk in
      subst (OfDesk scope pool injected g e (length (put logs x log g))) (sym empty)
      (empty_collects scope pool injected g e (length (put logs x log g)))
  | inr other ↦
      subst (λ n. OfDesk scope pool injected g e n (put desks x empty_desk g)) (sym (ap length (put_there logs x log g other)))
      (subst (OfDesk scope pool injected g e (length (logs g))) (sym (put_there desks x empty_desk g other)) k)
]

-- the same with more packets
view_more : {S : Type 0} (scope : Scope S) (pool more : List Sent) (injected : List Given) (g e slot : ℕ) (desk : Desk)
    → OfDesk scope pool injected g e slot desk → OfDesk scope (pool ++ more) injected g e slot desk
view_more scope pool more injected g e slot desk k =
    collecting_more scope pool more injected g e slot desk.offered desk.ordered desk.orders desk.sent k

-- a rule that is due
rule_collects : {S : Type 0} (setting : Setting S) → AreHosts setting.scope → (pool : List Sent) (injected : List Given) (g : ℕ)
    (ledger : List Entry) (v : View) (rule : Rule) → IsSound setting g ledger v → is_honest setting g ≡ true → g < 32
    → due setting.scope v ≡ Some rule → OfView setting.scope pool injected g v
    → OfView setting.scope (pool ++ (acts_of setting.scope v rule).packets) injected g (taken setting.scope v rule)
unfolding with_heads logged with_links with_deliver
rule_collects setting hosts pool injected g ledger v (Offer x c) sound honest low is k =
    let more = (acts_of setting.scope v (Offer x c)).packets in
    let may = (due_enabled setting.scope v (Offer x c) is).1 in
    desk_collects setting.scope (pool ++ more) injected g v.epoch (length_of v g) x v.desks (λ y. with_offer c (v.desks y))
    (λ same.
    let none = subst (λ y. (v.desks y).offered ≡ None) (sym same) (offer_new setting.scope v x c may) in
    view_more setting.scope pool more injected g v.epoch (length_of v g) (with_offer c (v.desks g))
    (offer_collects setting pool injected g ledger v c sound none k))
    (view_more setting.scope pool more injected g v.epoch (length_of v g) (v.desks g) k)
rule_collects setting hosts pool injected g ledger v (Order x c) sound honest low is k =
    let more = (acts_of setting.scope v (Order x c)).packets in
    let may = (due_enabled setting.scope v (Order x c) is).1 in
    desk_collects setting.scope (pool ++ more) injected g v.epoch (length_of v g) x v.desks
    (λ y. with_order (v.me == y) v.me c (own_tags setting.scope v y (body.Filled kind.Order y (length_of v y) c)) (v.desks y))
    (λ same.
    view_more setting.scope pool more injected g v.epoch (length_of v g)
    (with_order (v.me == g) v.me c (own_tags setting.scope v g (body.Filled kind.Order g (length_of v g) c)) (v.desks g))
    (order_collects setting pool injected g ledger v c sound honest low
    (subst (λ y. to_order setting.scope v y ≡ Some c) (sym same) may) k))
    (view_more setting.scope pool more injected g v.epoch (length_of v g) (v.desks g) k)
rule_collects {S} setting hosts pool injected g ledger v (Certificate x c) sound honest low is k =
    desk_collects setting.scope (pool ++ more x) injected g v.epoch (length_of v g) x v.desks (λ y. with_sent (v.desks y))
    (λ same.
    subst (λ y. OfDesk setting.scope (pool ++ more y) injected g v.epoch (length_of v g) (with_sent (v.desks g))) same
    (certificate_collects setting hosts pool injected g ledger v c sound
    (subst (λ y. to_certify setting.scope v y ≡ Some c) (sym same) (due_enabled setting.scope v (Certificate x c) is).1) k))
    (view_more setting.scope pool (more x) injected g v.epoch (length_of v g) (v.desks g) k)
  where
    more : ℕ → List Sent
    more y = (acts_of setting.scope v (Certificate y c)).packets
rule_collects {S} setting hosts pool injected g ledger v (Deliver x c) sound honest low is k =
    desk_collects setting.scope (pool ++ more) injected g v.epoch (length_of v g) x v.desks
    (λ y. with_deliver v.me c (own_tags setting.scope v y (body.Filled kind.Deliver y (length_of v y) c)) (v.desks y))
    (λ same. deliver_same (own_tags setting.scope v g (body.Filled kind.Deliver g (length_of v g) c)) here) here
  where
    more : List Sent
    more = (acts_of setting.scope v (Deliver x c)).packets

    here : OfDesk setting.scope (pool ++ more) injected g v.epoch (length_of v g) (v.desks g)
    here = view_more setting.scope pool more injected g v.epoch (length_of v g) (v.desks g) k

    deliver_same : (tags : List (ℕ × List ℕ)) → OfDesk setting.scope (pool ++ more) injected g v.epoch (length_of v g) (v.desks g)
        → OfDesk setting.scope (pool ++ more) injected g v.epoch (length_of v g) (with_deliver v.me c tags (v.desks g))
    deliver_same tags d = d
rule_collects setting hosts pool injected g ledger v (Log x c) sound honest low is k =
    let more = (acts_of setting.scope v (Log x c)).packets in
    log_collects setting.scope (pool ++ more) injected g v.epoch x v.desks v.logs (v.logs x ++ c ∷ [])
    (view_more setting.scope pool more injected g v.epoch (length_of v g) (v.desks g) k)
rule_collects setting hosts pool injected g ledger v (Attest p x n payload) sound honest low is k =
    view_more setting.scope pool (acts_of setting.scope v (Attest p x n payload)).packets injected g v.epoch (length_of v g) (v.desks g) k

-- ---- each record

-- orders that are taken
orders_collect : {S : Type 0} (scope : Scope S) (pool : List Sent) (injected : List Given) (g e slot : ℕ) (content : Content)
    (makers : List Tags) (desk : Desk)
    → ((t : Tags) → Contains makers t → IsReadThere pool injected (said_in e (body.Filled kind.Order g slot content)) t)
    → OfDesk scope pool injected g e slot desk
    → OfDesk scope pool injected g e slot (with_orders content makers desk)
unfolding with_orders
orders_collect {S} scope pool injected g e slot content makers desk read k = by (is_content desk.offered content) refl
  where
    from : desk.offered ≡ Some content → (m : ℕ) (tags : List (ℕ × List ℕ))
        → seat_of (collected makers desk.orders) m ≡ Some tags → (c : Content) → desk.offered ≡ Some c
        → IsFrom scope pool injected g e slot c m tags
    from offered m tags get c is = elim (collected_case makers desk.orders m tags get) [
      | inl old ↦ k.from m tags old c is
      | inr new ↦
          let both = sym offered ∙ is in
          let same : content ≡ c = cc in
          let maker = new.2 in
          let has = new.3 in
          let entry : new.0 ≡ record { maker = m; tags = tags } = tags_are new.0 m tags maker has in
          inl (subst (λ x. IsReadThere pool injected (said_in e (body.Filled kind.Order g slot x)) (record { maker = m; tags = tags })) same
          (subst (IsReadThere pool injected (said_in e (body.Filled kind.Order g slot content))) entry (read new.0 new.1)))
    ]
      where
        tags_are : (t : Tags) (n : ℕ) (ts : List (ℕ × List ℕ)) → t.maker ≡ n → t.tags ≡ ts
            → t ≡ record { maker = n; tags = ts }
        tags_are t n ts one two =
            ap (λ x. record t { maker = x }) one ∙ ap (λ x. record { maker = n; tags = x }) two

    by : (b : Bool) → is_content desk.offered content ≡ b
        → OfDesk scope pool injected g e slot (if b then record desk { orders = collected makers desk.orders } else desk)
    by true is =
        more_collect scope pool injected g e slot desk.offered desk.ordered desk.ordered desk.orders (collected makers desk.orders) desk.sent k
        (collected_grown makers desk.orders)
        (λ c made. let was = k.own c made in
        (was.0, seats_keep (λ (t : Tags). t.maker) (λ (t : Tags). t.tags) makers desk.orders g was.0 was.1))
        (from (offer_is desk.offered content is))
    by false is = k

-- each kind of record
body_collects : {S : Type 0} (setting : Setting S) (pool : List Sent) (injected : List Given) (g : ℕ) (v : View) (e : ℕ)
    (said : Body) (makers : List Tags) → misplaced_body setting.scope v e said ≡ None
    → ((t : Tags) → Contains makers t → IsReadThere pool injected (said_in e said) t)
    → OfView setting.scope pool injected g v
    → OfView setting.scope pool injected g (noted_body setting.scope e said makers v)
unfolding with_heads with_attests logged with_links entering with_held with_votes with_certificate
body_collects {S} setting pool injected g v e (body.Filled kind.Offer x slot c) makers is read k =
    desk_collects setting.scope pool injected g v.epoch (length_of v g) x v.desks (λ y. with_held c (v.desks y)) (λ same. held k) k
  where
    held : OfDesk setting.scope pool injected g v.epoch (length_of v g) (v.desks g)
        → OfDesk setting.scope pool injected g v.epoch (length_of v g) (with_held c (v.desks g))
    held d = d
body_collects {S} setting pool injected g v e (body.Filled kind.Order x slot c) makers is read k = by (v.me == x)
  where
    at : (e ≡ v.epoch) × (slot ≡ length_of v x)
    at = vote_is setting.scope v e x slot is

    here : g ≡ x → (t : Tags) → Contains makers t
        → IsReadThere pool injected (said_in v.epoch (body.Filled kind.Order g (length_of v g) c)) t
    here same t among =
        subst (λ y. IsReadThere pool injected (said_in v.epoch (body.Filled kind.Order y (length_of v y) c)) t) (sym same)
        (subst (λ n. IsReadThere pool injected (said_in v.epoch (body.Filled kind.Order x n c)) t) at.1
        (subst (λ n. IsReadThere pool injected (said_in n (body.Filled kind.Order x slot c)) t) at.0 (read t among)))

    counted : (desk : Desk) (bare : Bool) → OfDesk setting.scope pool injected g v.epoch (length_of v g) desk
        → OfDesk setting.scope pool injected g v.epoch (length_of v g) (if bare then record desk { certified = Some c } else desk)
    counted desk true d = d
    counted desk false d = d

    certified : OfDesk setting.scope pool injected g v.epoch (length_of v g) (v.desks g)
        → OfDesk setting.scope pool injected g v.epoch (length_of v g) (with_certificate (quorum_at setting.scope v.epoch g) c makers (v.desks g))
    certified d = counted (v.desks g)
        (is_ordered (quorum_at setting.scope v.epoch g) (orderers c makers (v.desks g)) && is_none (v.desks g).certified) d

    by : (b : Bool) → OfView setting.scope pool injected g (if b then at_desk x (with_orders c makers) v
        else at_desk x (with_certificate (quorum_at setting.scope v.epoch x) c makers) v)
    by true =
        desk_collects setting.scope pool injected g v.epoch (length_of v g) x v.desks (λ y. with_orders c makers (v.desks y))
        (λ same. orders_collect setting.scope pool injected g v.epoch (length_of v g) c makers (v.desks g) (here same) k) k
    by false =
        desk_collects setting.scope pool injected g v.epoch (length_of v g) x v.desks
        (λ y. with_certificate (quorum_at setting.scope v.epoch y) c makers (v.desks y)) (λ same. certified k) k
body_collects {S} setting pool injected g v e (body.Filled kind.Deliver x slot c) makers is read k =
    desk_collects setting.scope pool injected g v.epoch (length_of v g) x v.desks (λ y. with_votes c makers (v.desks y)) (λ same. voted k) k
  where
    voted : OfDesk setting.scope pool injected g v.epoch (length_of v g) (v.desks g)
        → OfDesk setting.scope pool injected g v.epoch (length_of v g) (with_votes c makers (v.desks g))
    voted d = d
body_collects setting pool injected g v e (body.Filled kind.Report x slot c) makers is read k = absurd (cc)
body_collects setting pool injected g v e (body.Filled kind.Inherit x slot c) makers is read k =
    log_collects setting.scope pool injected g v.epoch x v.desks v.logs (v.logs x ++ c ∷ []) k
body_collects setting pool injected g v e (body.Attest p x n payload) makers is read k = k
body_collects setting pool injected g v e (body.Ask x slot) makers is read k = k
body_collects setting pool injected g v e body.Wedge makers is read k = k
body_collects setting pool injected g v e (body.Frozen x slot) makers is read k = absurd (cc)
body_collects setting pool injected g v e (body.Open lengths) makers is read k =
    empty_collects setting.scope pool injected g e (length_of v g)

-- what has a place is among them
pub placed_in : {A : Type 0} (xs : List A) (n : ℕ) (x : A) → slice_get xs n ≡ Some x → Contains xs x
placed_in [] n x get = absurd (cc)
placed_in (y ∷ xs) zero x get = (zero, omega arith, let same : y ≡ x = cc in same)
placed_in (y ∷ xs) (suc n) x get = let rest = placed_in xs n x get in (suc rest.0, omega (arith, rest.1), rest.2)

-- a record that isn't dropped
record_collects : {S : Type 0} (setting : Setting S) (w : World) (g : ℕ) (v : View) (r : Record)
    → verdict setting.scope v r ≡ None → IsTaken w g r → OfView setting.scope w.pool w.injected g v
    → OfView setting.scope w.pool w.injected g (noted setting.scope v r)
unfolding verdict misplaced noted accepted
record_collects {S} setting w g v r is told k =
    let makers = accepted setting.scope r.statement.epoch v.me r in
    body_collects setting w.pool w.injected g v r.statement.epoch r.statement.body makers
    (or_none (misplaced_body setting.scope v r.statement.epoch r.statement.body) (untagged makers) is).0
    (λ t among. record {
      frame = told.frame;
      there = there told.take.packet told.frame_is;
      r = r;
      reads = told.reads;
      says = refl;
      among = in_list (accepts setting.scope r.statement.epoch v.me r.statement) r.makers t among;
    }) k
  where
    there : (n : Option ℕ) → IsFrameOf w told.take n told.frame → AreThere w.pool w.injected told.frame
    there (Some n) has = inl (has.0, placed_in w.pool n has.0 has.1, has.2)
    there None has = inr (record { event = told.take.event; to = told.take.to; frame = told.frame }, has, refl)

-- ---- worlds

-- each host that doesn't lie keeps it
abbrev pub AreCollecting : {S : Type 0} → Setting S → World → Type 0
AreCollecting setting w = (g : ℕ) → is_honest setting g ≡ true → g < 32 → OfView setting.scope w.pool w.injected g (w.nodes g)

-- with what each node keeps of others
abbrev pub Collects : {S : Type 0} → Setting S → World → Type 0
Collects setting w = HoldsOfNodes (IsSound setting) w × AreCollecting setting w

-- a node that did something
step_collects : {S : Type 0} (setting : Setting S) (w : World) (g : ℕ) (v : View) (acts : Acts)
    → (is_honest setting g ≡ true → g < 32 → OfView setting.scope (w.pool ++ acts.packets) w.injected g v)
    → AreCollecting setting w → AreCollecting setting (with_step g v acts w)
step_collects setting w g v acts here all x honest low =
    put_case (λ (u : View). OfView setting.scope (w.pool ++ acts.packets) w.injected x u) w.nodes g v x
    (λ same. subst (λ y. OfView setting.scope (w.pool ++ acts.packets) w.injected y v) (sym same)
    (here (subst (λ y. is_honest setting y ≡ true) same honest) (subst (λ y. y < 32) same low)))
    (λ other.
    view_more setting.scope w.pool acts.packets w.injected x (w.nodes x).epoch (length_of (w.nodes x) x) ((w.nodes x).desks x) (all x honest low))

-- more packets
packets_collect : {S : Type 0} (setting : Setting S) (w : World) (packets : List Sent) → AreCollecting setting w
    → (g : ℕ) → is_honest setting g ≡ true → g < 32 → OfView setting.scope (w.pool ++ packets) w.injected g (w.nodes g)
packets_collect setting w packets all g honest low =
    view_more setting.scope w.pool packets w.injected g (w.nodes g).epoch (length_of (w.nodes g) g) ((w.nodes g).desks g) (all g honest low)

-- a host is no Olympus
host_below : (g : ℕ) → g < 32 → g ≢ olympus
host_below g low is = omega (arith, low, is)

-- each step
pub collect_steps : {S : Type 0} (setting : Setting S) → AreHosts setting.scope → TakesKeep setting (Collects setting)
collect_steps {S} setting hosts = record {
  rules = λ w g v rule acting is k. (
    sound.rules w g v rule acting is k.0,
    step_collects setting w g (taken setting.scope v rule) (acts_of setting.scope v rule)
        (λ honest low.
        rule_collects setting hosts w.pool w.injected g w.ledger v rule (subst (IsSound setting g w.ledger) acting.view (k.0 g (host_below g low)))
        honest low is (subst (OfView setting.scope w.pool w.injected g) acting.view (k.1 g honest low))) k.1,
  );
  records = λ w g v r acting host is some told k. (
    sound.records w g v r acting host is some k.0,
    step_collects setting w g (noted setting.scope v r) (acts_by setting.scope v r)
        (λ honest low.
        let next = noted setting.scope v r in
        view_more setting.scope w.pool (acts_by setting.scope v r).packets w.injected g next.epoch (length_of next g) (next.desks g)
        (record_collects setting w g v r is told (subst (OfView setting.scope w.pool w.injected g) acting.view (k.1 g honest low)))) k.1,
  );
  inputs = λ w g v payload acting room k. (
    sound.inputs w g v payload tt acting room k.0,
    step_collects setting w g (with_input payload v) nothing
        (λ honest low.
        view_more setting.scope w.pool [] w.injected g v.epoch (length_of v g) (v.desks g)
        (subst (OfView setting.scope w.pool w.injected g) acting.view (k.1 g honest low))) k.1,
  );
  asking = λ w g v acting k. (
    sound.asking w g v acting k.0,
    step_collects setting w g v (questions setting.scope v)
        (λ honest low.
        view_more setting.scope w.pool (questions setting.scope v).packets w.injected g v.epoch (length_of v g) (v.desks g)
        (subst (OfView setting.scope w.pool w.injected g) acting.view (k.1 g honest low))) k.1,
  );
  hears = λ w r is some told k. (sound.hears w r is some k.0, k.1);
  wedges = λ w is k. (sound.wedges w is k.0, packets_collect setting w _ k.1);
  decides = λ w h after answer decides k. (sound.decides w h after answer decides k.0, k.1);
  retires = λ w h is k. (sound.retires w h is k.0, k.1);
  epochs = λ w epoch is k. (sound.epochs w epoch is k.0, packets_collect setting w _ k.1);
  packets = λ w event packets brings k. (sound.packets w event packets brings k.0, packets_collect setting w packets k.1);
  told = λ w events delivered injected takes notes given taken_on k. (
    sound.told w events delivered injected takes notes k.0,
    λ g honest low.
        let v = w.nodes g in
        collecting_given setting.scope w.pool w.injected injected g v.epoch (length_of v g) (v.desks g).offered (v.desks g).ordered
        (v.desks g).orders (v.desks g).sent given (k.1 g honest low),
  );
}
  where
    sound : WorldsKeep setting (HoldsOfNodes (IsSound setting))
    sound = nodes_keep setting (IsSound setting) (sound_steps setting hosts)
        (λ g ledger v r frame read is makers k. (sound_steps setting hosts).records g ledger v r (frame, read) is makers k)

-- in the first world
pub first_collects : {S : Type 0} (setting : Setting S) → AreHosts setting.scope → Collects setting (fresh_world setting)
unfolding fresh_world first_view entering with_links
first_collects setting hosts = (
  λ g ne. are_sound setting hosts [] (fresh_world setting) refl g ne,
  λ g honest low. empty_collects setting.scope [] [] g 0 0,
)

-- in each world
pub are_collecting : {S : Type 0} (setting : Setting S) → AreHosts setting.scope → InEachWorld setting (AreCollecting setting)
are_collecting setting hosts events w happen =
    (in_each_taken setting (Collects setting) (first_collects setting hosts) (collect_steps setting hosts) events w happen).1

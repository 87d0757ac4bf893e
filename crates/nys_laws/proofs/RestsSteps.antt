-- Each step of a node leaves what the view rests on, but for its votes.
use Rattle.std.proofs.Common.{◌≡◌, ◌≢◌, ℕ, ◌+◌, ◌==◌, Bool, true, false, ℤ, List, [], ◌∷◌, Some, None, refl, ap, sym, subst, ◌∙◌, inl, inr, arith}
use Rattle.std.specs.Prelude.{Contains, if◌then◌else◌, slice_get}
use Rattle.std.proofs.lemmas.Bool.{cases_lt, ne_eqb}
use Rattle.nys_bytes.specs.declared.content.Content.{Content}
use Rattle.nys_agreement.proofs.TableLemmas.{put_at_case, put_here}
use Rattle.nys_hosts.proofs.CountLemmas.{AtLeast-map}
use Rattle.nys_source.specs.Tables.{put, put_at}
use Rattle.nys_stmt.specs.declared.records.Record.{Record}
use Rattle.nys_stmt.specs.declared.statement.Body.{Body}
use Rattle.nys_stmt.specs.declared.statement.Body.TheVariants as body
use Rattle.nys_stmt.specs.declared.statement.FilledKind.TheVariants as kind
use Rattle.nys_stmt.specs.declared.tags.Tags.{Tags}
use Rattle.nys_rules.specs.declared.kept.Attested.{Attested}
use Rattle.nys_rules.specs.declared.rule.Rule.{Rule}
use Rattle.nys_rules.specs.declared.rule.Rule.TheVariants.{Offer, Order, Certificate, Deliver, Log, Attest}
use Rattle.nys_rules.specs.Certificates.{IsOrderOf, IsShownToOrder}
use Rattle.nys_rules.specs.Dropping.{accepted, misplaced_body}
use Rattle.nys_rules.specs.Forged.{Entry, HasMade, with_made}
use Rattle.nys_rules.specs.Noting.{at_desk, bases, noted, noted_body, retirements, with_attests, with_certificate, with_held, with_orders, with_votes}
use Rattle.nys_rules.specs.Rules.{Enabled}
use Rattle.nys_rules.specs.Scope.{quorum_at}
use Rattle.nys_rules.specs.Sending.{made_for, said_in}
use Rattle.nys_rules.specs.Taking.{acts_of, one_more, ordering, own_tags, taken, with_deliver, with_kept, with_offer, with_order, with_sent}
use Rattle.nys_rules.specs.View.{length_of, sent_to, View}
use Rattle.nys_rules.specs.World.{Setting}
use Rattle.nys_rules.proofs.CertificateLemmas.{both_true, counts_by_makers, not_equal}
use Rattle.nys_laws.specs.Grounds.{IsLiveAt}
use Rattle.nys_laws.specs.Heard.{WasMade}
use Rattle.nys_laws.specs.Own.{KeepsOwn}
use Rattle.nys_laws.specs.Own.Stage.{Ordered}
use Rattle.nys_laws.specs.Rests.{HasAttested}
use Rattle.nys_laws.specs.SetUp.{AreHosts}
use Rattle.nys_laws.specs.Vouched.{GuardsLink, IsVouched}
use Rattle.nys_laws.proofs.HeardLemmas.{AreNoted, vote_is}
use Rattle.nys_laws.proofs.LedgerLemmas.{made_now}
use Rattle.nys_laws.proofs.LiveLemmas.{honest_guard, low_guard}
use Rattle.nys_laws.proofs.OpenLemmas.{attest_next, attest_sender, AttestsNext, deliver_open, inherit_is, log_open, order_open, vote_live}
use Rattle.nys_laws.proofs.ReadLemmas.{whole_read}
use Rattle.nys_laws.proofs.RestsDesks.{AllGuard, certificate_rests, deliver_rests, held_rests, offer_rests, order_rests, orders_rests, sent_rests, votes_rests}
use Rattle.nys_laws.proofs.RestsLemmas.{Backs, backs_attests, backs_desk, backs_entering, backs_heads, backs_logged, backs_more, OrderedAt}
use Rattle.nys_laws.proofs.WorldKeeping.{IsRead}

-- one number more of a link is attested, by a statement of it
number_more : {S : Type 0} (setting : Setting S) (g : ℕ) (ledger : List Entry) (v : View) (p h k : ℕ) (payload : List ℤ)
    → AttestsNext setting.scope v p h k payload
    → HasMade ledger g (said_in v.epoch (body.Attest p h k payload)) → Backs setting g ledger v
    → (range : Attested) → one_more (v.attested p h) ≡ Some range
    → HasAttested setting.scope g ledger v.epoch p h (sent_to setting.scope v p h) range
number_more {S} setting g ledger v p h k payload next said kept range is =
    let now = sym (ap one_more next.range_is) ∙ is in
    let same : record next.range { next = next.range.next + 1 } ≡ range = cc in
    let was = kept.attested p h next.range next.range_is in
    subst (HasAttested setting.scope g ledger v.epoch p h (sent_to setting.scope v p h)) same (record {
      guards = was.guards;
      made = λ n low high. elim (cases_lt n next.range.next) [
        | inl before ↦ was.made n low before
        | inr last ↦
            let this : k ≡ n = let at = next.next_is in omega (arith, high, last, at) in
            subst (λ x. Made x) this (payload, next.sent, said)
      ];
    })
  where
    Made : ℕ → Type 0
    Made n = (told : List ℤ) × (slice_get (sent_to setting.scope v p h) n ≡ Some told)
        × HasMade ledger g (said_in v.epoch (body.Attest p h n told))

-- the view in which it is
attest_backs : {S : Type 0} (setting : Setting S) (g : ℕ) (ledger : List Entry) (v : View) (p h k : ℕ) (payload : List ℤ)
    → AttestsNext setting.scope v p h k payload
    → HasMade ledger g (said_in v.epoch (body.Attest p h k payload)) → Backs setting g ledger v
    → Backs setting g ledger (record v { attested = put_at v.attested p h (one_more (v.attested p h)) })
unfolding sent_to
attest_backs {S} setting g ledger v p h k payload next said kept = record {
  host = kept.host;
  desks = kept.desks;
  heard = kept.heard;
  attested = λ x y range.
      put_at_case (λ o. o ≡ Some range → Has x y range) v.attested p h (one_more (v.attested p h)) x y
      (λ a b is.
      subst (λ i. Has i y range) (sym a) (subst (λ j. Has p j range) (sym b)
      (number_more setting g ledger v p h k payload next said kept range is)))
      (λ other. kept.attested x y range);
  logs = kept.logs;
}
  where
    Has : (x y : ℕ) → Attested → Type 0
    Has x y range = HasAttested setting.scope g ledger v.epoch x y (sent_to setting.scope v x y) range

-- each rule that is enabled
pub enabled_backs : {S : Type 0} (setting : Setting S) (v : View) (rule : Rule) → Enabled setting.scope v rule
    → (g : ℕ) (ledger : List Entry)
    → Backs setting g ledger v
    → Backs setting g (with_made g (acts_of setting.scope v rule).made ledger) (taken setting.scope v rule)
unfolding made_for ordering sent_to
enabled_backs setting v (Offer h content) e g ledger k =
    let made = (acts_of setting.scope v (Offer h content)).made in
    backs_desk setting g (with_made g made ledger) h (with_offer content) v
    (offer_rests _ _ _ content (v.desks h)) (backs_more setting g g made ledger v k)
enabled_backs setting v (Order h content) e g ledger k =
    let made = (acts_of setting.scope v (Order h content)).made in
    let tags = own_tags setting.scope v h (body.Filled kind.Order h (length_of v h) content) in
    backs_desk setting g (with_made g made ledger) h (with_order (v.me == h) v.me content tags) v
    (order_rests _ _ _ (v.me == h) v.me content tags (v.desks h) (order_open setting.scope v h content e).live.guard)
    (backs_more setting g g made ledger v k)
enabled_backs setting v (Certificate h content) e g ledger k =
    let made = (acts_of setting.scope v (Certificate h content)).made in
    backs_desk setting g (with_made g made ledger) h with_sent v (sent_rests _ _ _ (v.desks h))
    (backs_more setting g g made ledger v k)
enabled_backs setting v (Deliver h content) e g ledger k =
    let made = (acts_of setting.scope v (Deliver h content)).made in
    let tags = own_tags setting.scope v h (body.Filled kind.Deliver h (length_of v h) content) in
    let at = deliver_open setting.scope v h content e in
    let more = backs_more setting g g made ledger v k in
    backs_desk setting g (with_made g made ledger) h (with_deliver v.me content tags)
    (record v { voted_to = put v.voted_to h (length_of v h + 1) })
    (deliver_rests _ _ _ v.me content tags (v.desks h) at.live.guard at.reached)
    (record { host = more.host; desks = more.desks; heard = more.heard; attested = more.attested; logs = more.logs })
enabled_backs setting v (Log h content) e g ledger k =
    let more = backs_more setting g g [] ledger v k in
    backs_logged setting g (with_made g [] ledger) h content (with_kept h content v)
    (log_open setting.scope v h content e).1
    (record { host = more.host; desks = more.desks; heard = more.heard; attested = more.attested; logs = more.logs })
enabled_backs setting v (Attest p h n payload) e g ledger k =
    let s = said_in v.epoch (body.Attest p h n payload) in
    let next = with_made g (s ∷ []) ledger in
    backs_heads setting g next h (record v { attested = put_at v.attested p h (one_more (v.attested p h)) })
    (attest_backs setting g next v p h n payload (attest_next setting.scope v p h n payload e) (made_now g ledger s)
    (backs_more setting g g (s ∷ []) ledger v k))

-- a maker that is shown to have ordered a content vouches for that
shown_vouches : {S : Type 0} (setting : Setting S) (g : ℕ) (ledger : List Entry) (v : View) (r : Record) (h slot : ℕ)
    (content : Content)
    → AreHosts setting.scope → IsLiveAt setting.scope v h
    → (r.statement.epoch ≡ v.epoch) × (slot ≡ length_of v h)
    → AreNoted setting ledger r.statement.epoch (body.Filled kind.Order h slot content)
    (accepted setting.scope r.statement.epoch v.me r)
    → KeepsOwn g ledger v → (m : ℕ) → IsShownToOrder setting.scope v h content r m
    → IsVouched setting ledger v.epoch h (body.Filled kind.Order h (length_of v h) content) m
shown_vouches {S} setting g ledger v r h slot content hosts live at noted own m shown = elim shown [
  | inl other ↦
      let guard = subst (λ x. setting.scope.guards r.statement.epoch h x ≡ true) other.maker_is
      (noted.permitted other.tags other.among) in
      let said = subst (λ x. WasMade setting ledger x (said_in r.statement.epoch (body.Filled kind.Order h slot content)))
      other.maker_is (noted.made other.tags other.among) in
      subst (λ e. IsVouched setting ledger e h (body.Filled kind.Order h (length_of v h) content) m) at.0
      (subst (λ s. IsVouched setting ledger r.statement.epoch h (body.Filled kind.Order h s content) m) at.1 (
        guard,
        λ honest. said (low_guard setting hosts r.statement.epoch h m guard)
            (honest_guard setting hosts r.statement.epoch h m guard honest),
      ))
  | inr itself ↦ (
    subst (λ x. setting.scope.guards v.epoch h x ≡ true) (sym itself.0) live.guard,
    λ honest.
        subst (λ x. HasMade ledger x (said_in v.epoch (body.Filled kind.Order h (length_of v h) content))) (sym (itself.0 ∙ own.host))
        (own.own.kept Ordered h content itself.1),
  )
]

-- what the desk has certified once a record is counted was ordered by a quorum
counted_rests : {S : Type 0} (setting : Setting S) (g : ℕ) (ledger : List Entry) (v : View) (r : Record) (h slot : ℕ)
    (content other : Content)
    → AreHosts setting.scope → IsRead r → r.statement.body ≡ body.Filled kind.Order h slot content → v.me ≢ h
    → IsLiveAt setting.scope v h
    → (r.statement.epoch ≡ v.epoch) × (slot ≡ length_of v h)
    → AreNoted setting ledger r.statement.epoch (body.Filled kind.Order h slot content)
    (accepted setting.scope r.statement.epoch v.me r)
    → KeepsOwn g ledger v → Backs setting g ledger v
    → (with_certificate (quorum_at setting.scope v.epoch h) content
    (accepted setting.scope r.statement.epoch v.me r) (v.desks h)).certified ≡ Some other
    → OrderedAt setting ledger v h other
unfolding noted
counted_rests {S} setting g ledger v r h slot content other hosts read says ne live at makers own k is =
    elim (counts_by_makers setting.scope v r h slot content other order (ap (λ d. d.certified) desk_is ∙ is)) [
      | inl old ↦ (k.desks h).certified other old
      | inr new ↦
          subst (OrderedAt setting ledger v h) (sym new.0)
          (AtLeast-map (quorum_at setting.scope v.epoch h) (IsShownToOrder setting.scope v h content r)
          (IsVouched setting ledger v.epoch h (body.Filled kind.Order h (length_of v h) content))
          (shown_vouches setting g ledger v r h slot content hosts live at makers own) new.1)
    ]
  where
    some : List Tags
    some = accepted setting.scope r.statement.epoch v.me r

    order : IsOrderOf setting.scope v r h slot content
    order = record {
      says = says;
      other = ne;
      host = low_guard setting hosts v.epoch h v.me live.guard;
      hosts = λ m guard. low_guard setting hosts r.statement.epoch h m guard;
      rule = whole_read read.0 r read.1;
    }

    desk_is : (noted setting.scope v r).desks h
        ≡ with_certificate (quorum_at setting.scope v.epoch h) content some (v.desks h)
    desk_is =
        ap (λ b. (noted_body setting.scope r.statement.epoch b some v).desks h) says
        ∙ rw (ne_eqb v.me h ne)
        (put_here v.desks h (with_certificate (quorum_at setting.scope v.epoch h) content some (v.desks h)))

-- the makers of a vote guard the host, in the epoch of the node
all_guard : {S : Type 0} (setting : Setting S) (v : View) (e h : ℕ) (makers : List Tags) → e ≡ v.epoch
    → ((t : Tags) → Contains makers t → setting.scope.guards e h t.maker ≡ true)
    → AllGuard (setting.scope.guards v.epoch h) makers
all_guard setting v e h makers same each t among =
    subst (λ d. setting.scope.guards d h t.maker ≡ true) same (each t among)

-- each kind of record
pub noted_backs : {S : Type 0} (setting : Setting S) → AreHosts setting.scope
    → (g : ℕ) (ledger : List Entry) (v : View) (r : Record) → IsRead r
    → (said : Body) → r.statement.body ≡ said → misplaced_body setting.scope v r.statement.epoch said ≡ None
    → AreNoted setting ledger r.statement.epoch said (accepted setting.scope r.statement.epoch v.me r)
    → KeepsOwn g ledger v → Backs setting g ledger v
    → Backs setting g ledger
    (noted_body setting.scope r.statement.epoch said (accepted setting.scope r.statement.epoch v.me r) v)
unfolding sent_to
noted_backs setting hosts g ledger v r read (body.Filled kind.Offer h slot content) says is makers own k =
    backs_desk setting g ledger h (with_held content) v (held_rests _ _ _ content (v.desks h)) k
noted_backs {S} setting hosts g ledger v r read (body.Filled kind.Order h slot content) says is makers own k =
    by (v.me == h) refl
  where
    some : List Tags
    some = accepted setting.scope r.statement.epoch v.me r

    at : (r.statement.epoch ≡ v.epoch) × (slot ≡ length_of v h)
    at = vote_is setting.scope v r.statement.epoch h slot is

    by : (b : Bool) → (v.me == h) ≡ b
        → Backs setting g ledger (if b then at_desk h (with_orders content some) v
        else at_desk h (with_certificate (quorum_at setting.scope v.epoch h) content some) v)
    by true same = backs_desk setting g ledger h (with_orders content some) v
        (orders_rests _ _ _ content some (v.desks h)
        (all_guard setting v r.statement.epoch h some at.0 makers.permitted)) k
    by false same =
        backs_desk setting g ledger h (with_certificate (quorum_at setting.scope v.epoch h) content some) v
        (certificate_rests _ _ _ (quorum_at setting.scope v.epoch h) content some (v.desks h)
        (λ other now. counted_rests setting g ledger v r h slot content other hosts read says (not_equal v.me h same)
        (vote_live setting.scope v r.statement.epoch h slot is) at makers own k now)) k
noted_backs setting hosts g ledger v r read (body.Filled kind.Deliver h slot content) says is makers own k =
    let some = accepted setting.scope r.statement.epoch v.me r in
    backs_desk setting g ledger h (with_votes content some) v
    (votes_rests _ _ _ content some (v.desks h)
    (all_guard setting v r.statement.epoch h some (vote_is setting.scope v r.statement.epoch h slot is).0 makers.permitted)) k
noted_backs setting hosts g ledger v r read (body.Attest p h n payload) says is makers own k =
    let some = accepted setting.scope r.statement.epoch v.me r in
    let at = attest_sender setting.scope v r.statement.epoch p h n is in
    backs_heads setting g ledger h (with_attests p h n payload some v)
    (backs_attests setting g ledger p h n payload some v
    (λ t among.
    let both = both_true (setting.scope.guards r.statement.epoch p t.maker)
    (setting.scope.guards r.statement.epoch h t.maker) (makers.permitted t among) in
    subst (λ e. GuardsLink setting.scope e p h t.maker) at.0
    (record { sender = at.1; of_sender = both.0; of_host = both.1 })) k)
noted_backs setting hosts g ledger v r read (body.Ask h slot) says is makers own k = k
noted_backs setting hosts g ledger v r read body.Wedge says is makers own k =
    record { host = k.host; desks = k.desks; heard = k.heard; attested = k.attested; logs = k.logs }
noted_backs setting hosts g ledger v r read (body.Filled kind.Report h slot content) says is makers own k = k
noted_backs setting hosts g ledger v r read (body.Frozen h slot) says is makers own k = k
noted_backs setting hosts g ledger v r read (body.Open lengths) says is makers own k =
    backs_entering setting g ledger r.statement.epoch (bases lengths) (retirements lengths) v k.host k.logs
noted_backs setting hosts g ledger v r read (body.Filled kind.Inherit h slot content) says is makers own k =
    backs_logged setting g ledger h content v
    (inherit_is setting.scope v r.statement.epoch h slot content is).fitting k

-- The machine allows what a node does by its rules, and has it then.
use Rattle.std.proofs.Common.{◌≡◌, ℕ, ◌+◌, ◌==◌, ◌&&◌, Bool, true, not, ℤ, List, length, Some, None, refl, ap, sym, subst, ◌∙◌, inl, inr}
use Rattle.std.specs.Prelude.{is_none, nat_lt, option_and_then, option_map, slice_get, Option}
use Rattle.std.specs.Option.{option_or}
use Rattle.std.proofs.lemmas.Bool.Decides.{Decides-eqb, Decides-ltb}
use Rattle.nys_bytes.specs.declared.content.Content.{Content}
use Rattle.nys_bytes.specs.declared.content.Content.TheVariants.{External, Message}
use Rattle.nys_hosts.specs.Counts.{AtLeast}
use Rattle.nys_stmt.specs.declared.statement.Body.{Body}
use Rattle.nys_agreement.specs.Alone.{Fits}
use Rattle.nys_agreement.specs.Net.{quorum_in}
use Rattle.nys_agreement.specs.Said.{AttestsBoth, Said, Vouches}
use Rattle.nys_agreement.specs.Assembly as machine
use Rattle.nys_agreement.specs.Events.{Enabled, IsCandidate, IsNext, IsOpen, MaySay}
use Rattle.nys_agreement.specs.Events.Event.{Logs}
use Rattle.nys_agreement.proofs.Ledgers.{at_least_map}
use Rattle.nys_stmt.specs.declared.statement.Body.TheVariants as body
use Rattle.nys_stmt.specs.declared.statement.FilledKind.TheVariants as kind
use Rattle.nys_votes.specs.Delivered.{delivered}
use Rattle.nys_rules.specs.declared.kept.Attested.{Attested}
use Rattle.nys_rules.specs.Forged.{Entry, HasMade}
use Rattle.nys_rules.specs.Heads.{candidate, head, head_content, is_allowed, is_attested_next, is_same, attested_payload, lowest_head, oldest_input, overdue_head}
use Rattle.nys_rules.specs.Logging.{fits}
use Rattle.nys_rules.specs.Premises.{net_of}
use Rattle.nys_rules.specs.Rules.{passing_only, to_attest, to_deliver, to_log, to_offer, to_order, unattested}
use Rattle.nys_rules.specs.Scope.{quorum_at, Scope}
use Rattle.nys_rules.specs.Sending.{said_in}
use Rattle.nys_rules.specs.View.{is_attesting, is_open, length_of, next_number, sent_to, View}
use Rattle.nys_rules.specs.World.{Setting, World}
use Rattle.nys_rules.proofs.CertificateLemmas.{both_true, only_if_some, passing_some}
use Rattle.nys_rules.proofs.SearchLemmas.{map_some, or_some}
use Rattle.nys_laws.specs.Vouched.{IsVouched, IsVouchedByBoth}
use Rattle.nys_follows.specs.Follows.{statement_of}
use Rattle.nys_follows.specs.Steps.{Grounds, IsBacked}
use Rattle.nys_follows.proofs.StageLemmas.{open_at, open_there, Scene, Stage}

-- the head of a link is a message, which a host may offer at any time
head_may : {S : Type 0} (scope : Scope S) (v : View) (h : ℕ) (o : Option ℕ) (c : Content) (waiting : List (List ℤ))
    → option_and_then (head_content scope v h) o ≡ Some c → IsCandidate waiting c
head_may scope v h None c waiting e = absurd (cc)
head_may scope v h (Some p) c waiting e =
    let found = map_some (λ payload. Message p (next_number scope v p h) payload) (head scope v p h) c e in
    subst (IsCandidate waiting) found.2 tt

-- the oldest input
oldest_may : (o : Option (List ℤ)) (c : Content) (waiting : List (List ℤ)) → slice_get waiting 0 ≡ o
    → option_map External o ≡ Some c → IsCandidate waiting c
oldest_may None c waiting is e = absurd (cc)
oldest_may (Some payload) c waiting is e =
    let same : External payload ≡ c = cc in subst (IsCandidate waiting) same is

-- what a host offers is a candidate
candidate_may : {S : Type 0} (scope : Scope S) (v : View) (h : ℕ) (c : Content) → candidate scope v h ≡ Some c
    → IsCandidate v.waiting c
unfolding candidate
candidate_may scope v h c e = elim (or_some (overdue_head scope v h) (option_or (oldest_input v) (lowest_head scope v h)) c e) [
  | inl a ↦ head_may scope v h _ c v.waiting a
  | inr b ↦ elim (or_some (oldest_input v) (lowest_head scope v h) c b.1) [
    | inl a ↦ oldest_may (slice_get v.waiting 0) c v.waiting refl a
    | inr b ↦ head_may scope v h _ c v.waiting b.1
  ]
]

-- who stands for a statement in a world vouches for it in the machine
stand_vouch : {S : Type 0} (setting : Setting S) (scene : Scene setting) (v : View) (ledger : List Entry) (runs : World) (m : machine.Assembly)
    → Stage setting scene v ledger runs m → (e h n : ℕ) (said : Body) (s : Said) → statement_of s ≡ said_in e said
    → AtLeast n (IsVouched setting ledger e h said) → AtLeast n (Vouches (net_of setting) m.ledger e h s)
stand_vouch setting scene v ledger runs m k e h n said s same stand =
    at_least_map (IsVouched setting ledger e h said) (Vouches (net_of setting) m.ledger e h s)
    (λ x p. (p.0, λ honest. k.told.here x s (subst (HasMade ledger x) (sym same) (p.1 honest)))) stand

-- an Offer
pub offer_may : {S : Type 0} (setting : Setting S) (scene : Scene setting) (v : View) (ledger : List Entry) (runs : World) (m : machine.Assembly)
    → Stage setting scene v ledger runs m → Grounds setting scene.actor ledger v → (h : ℕ) (c : Content)
    → to_offer setting.scope v h ≡ Some c
    → MaySay setting.scope.rules (net_of setting) m scene.actor (Said.Offer v.epoch h (length_of v h) c)
unfolding to_offer
offer_may setting scene v ledger runs m k ground h c e =
    let parts = only_if_some (v.me == h && (is_open setting.scope v h && is_none (v.desks h).offered)) (candidate setting.scope v h) c e in
    let own = both_true (v.me == h) (is_open setting.scope v h && is_none (v.desks h).offered) parts.0 in
    let slot = both_true (is_open setting.scope v h) (is_none (v.desks h).offered) own.1 in
    let host = (Decides-eqb v.me h).0 own.0 in
    let same = sym k.here.me ∙ host in
    let waits = ap m.waiting (sym same) ∙ k.here.waiting_is in (
      open_there setting scene v ledger runs m h k (open_at setting v h slot.0),
      same,
      λ d has. ground.offers h c e d (k.told.there scene.actor (Said.Offer v.epoch h (length_of v h) d) has),
      subst (λ (z : List (List ℤ)). IsCandidate z c) (sym waits) (candidate_may setting.scope v h c parts.1),
    )

-- a content that is attested and next in a world is next in the machine
next_there : {S : Type 0} (setting : Setting S) (scene : Scene setting) (v : View) (ledger : List Entry) (runs : World) (m : machine.Assembly)
    → Stage setting scene v ledger runs m → (h : ℕ) (c : Content) → is_attested_next setting.scope v h c ≡ true
    → IsBacked setting ledger v.epoch h c → IsNext setting.scope.rules (net_of setting) m scene.actor v.epoch h c
unfolding next_number
next_there setting scene v ledger runs m k h (External payload) e backed = tt
next_there setting scene v ledger runs m k h (Message p n payload) e backed =
    let parts = both_true (setting.scope.rules.linked p h)
    (n == next_number setting.scope v p h && is_same (attested_payload setting.scope v p h n) payload) e in
    let rest = both_true (n == next_number setting.scope v p h) (is_same (attested_payload setting.scope v p h n) payload) parts.1 in
    let number = (Decides-eqb n (next_number setting.scope v p h)).0 rest.0 in (
      subst (λ (l : List Content). Fits setting.scope.rules h l (Message p n payload)) (sym (k.here.log_is h)) (backed.0, parts.0, number),
      at_least_map (IsVouchedByBoth setting ledger v.epoch p h n payload) (AttestsBoth (net_of setting) m.ledger v.epoch p h n payload)
          (λ x q. (q.0.of_host, q.0.of_sender, λ honest. k.told.here x (Said.Attest v.epoch p h n payload) (q.1 honest))) backed.1,
    )

-- an Order
pub order_may : {S : Type 0} (setting : Setting S) (scene : Scene setting) (v : View) (ledger : List Entry) (runs : World) (m : machine.Assembly)
    → Stage setting scene v ledger runs m → Grounds setting scene.actor ledger v → (h : ℕ) (c : Content)
    → to_order setting.scope v h ≡ Some c
    → MaySay setting.scope.rules (net_of setting) m scene.actor (Said.Order v.epoch h (length_of v h) c)
unfolding to_order
order_may {S} setting scene v ledger runs m k ground h c e =
    let parts = only_if_some (is_open setting.scope v h && is_none (v.desks h).ordered) (passing_only test (v.desks h).held) c e in
    let slot = both_true (is_open setting.scope v h) (is_none (v.desks h).ordered) parts.0 in
    let found = passing_some test (v.desks h).held c parts.1 in
    let passed = both_true (is_attested_next setting.scope v h c) (is_allowed setting.scope v h c) found.1 in
    let why = ground.orders h c e in (
      open_there setting scene v ledger runs m h k (open_at setting v h slot.0),
      λ d has. why.never d (k.told.there scene.actor (Said.Order v.epoch h (length_of v h) d) has),
      λ honest. k.told.here h (Said.Offer v.epoch h (length_of v h) c) (why.offered honest),
      next_there setting scene v ledger runs m k h c passed.0 why.backed,
    )
  where
    test : Content → Bool
    test d = is_attested_next setting.scope v h d && is_allowed setting.scope v h d

-- a Deliver
pub deliver_may : {S : Type 0} (setting : Setting S) (scene : Scene setting) (v : View) (ledger : List Entry) (runs : World) (m : machine.Assembly)
    → Stage setting scene v ledger runs m → Grounds setting scene.actor ledger v → (h : ℕ) (c : Content)
    → to_deliver setting.scope v h ≡ Some c
    → MaySay setting.scope.rules (net_of setting) m scene.actor (Said.Deliver v.epoch h (length_of v h) c)
unfolding to_deliver quorum_at
deliver_may setting scene v ledger runs m k ground h c e =
    let parts = only_if_some (is_open setting.scope v h && is_none (v.desks h).delivered) _ c e in
    let slot = both_true (is_open setting.scope v h) (is_none (v.desks h).delivered) parts.0 in
    let why = ground.delivers h c e in (
      open_there setting scene v ledger runs m h k (open_at setting v h slot.0),
      λ d has. why.never d (k.told.there scene.actor (Said.Deliver v.epoch h (length_of v h) d) has),
      elim why.backed [
        | inl orders ↦ inl (stand_vouch setting scene v ledger runs m k v.epoch h (quorum_in (net_of setting) v.epoch h)
            (body.Filled kind.Order h (length_of v h) c) (Said.Order v.epoch h (length_of v h) c) refl orders)
        | inr votes ↦ inr (stand_vouch setting scene v ledger runs m k v.epoch h (setting.scope.t v.epoch h + 1)
            (body.Filled kind.Deliver h (length_of v h) c) (Said.Deliver v.epoch h (length_of v h) c) refl votes)
      ],
    )

-- an Attest
pub attest_may : {S : Type 0} (setting : Setting S) (scene : Scene setting) (v : View) (ledger : List Entry) (runs : World) (m : machine.Assembly)
    → Stage setting scene v ledger runs m → (p h n : ℕ) (payload : List ℤ)
    → to_attest setting.scope v p h ≡ Some (n, payload)
    → MaySay setting.scope.rules (net_of setting) m scene.actor (Said.Attest v.epoch p h n payload)
unfolding to_attest sent_to
attest_may {S} setting scene v ledger runs m k p h n payload e =
    let parts = only_if_some (not v.wedged && is_attesting setting.scope v p h) (unattested (sent_to setting.scope v p h) (v.attested p h)) (n, payload) e in
    let sent = by (v.attested p h) parts.1 in (
      scene.truthful.honest,
      rw (k.here.log_is p) sent,
    )
  where
    by : (o : Option Attested) → unattested (sent_to setting.scope v p h) o ≡ Some (n, payload)
        → slice_get (sent_to setting.scope v p h) n ≡ Some payload
    by None is = absurd (cc)
    by (Some range) is =
        let found = map_some {B = ℕ × List ℤ} (λ x. (range.next, x)) (slice_get (sent_to setting.scope v p h) range.next) (n, payload) is in
        let number : range.next ≡ n = ap (λ (z : ℕ × List ℤ). z.0) found.2 in
        let same : found.0 ≡ payload = ap (λ (z : ℕ × List ℤ). z.1) found.2 in
        subst (λ y. slice_get (sent_to setting.scope v p h) y ≡ Some payload) number (found.1 ∙ ap (λ (z : List ℤ). Some z) same)

-- what fits in a world fits in the machine
pub fits_there : {S : Type 0} (setting : Setting S) (scene : Scene setting) (v : View) (ledger : List Entry) (runs : World) (m : machine.Assembly)
    → Stage setting scene v ledger runs m → (h : ℕ) (c : Content) → fits setting.scope v h c ≡ true
    → Fits setting.scope.rules h (m.log scene.actor h) c
unfolding fits next_number
fits_there setting scene v ledger runs m k h (External payload) e = tt
fits_there setting scene v ledger runs m k h (Message p n payload) e =
    let parts = both_true (nat_lt p setting.scope.rules.hosts) (setting.scope.rules.linked p h && n == next_number setting.scope v p h) e in
    let rest = both_true (setting.scope.rules.linked p h) (n == next_number setting.scope v p h) parts.1 in
    subst (λ (l : List Content). Fits setting.scope.rules h l (Message p n payload)) (sym (k.here.log_is h))
    ((Decides-ltb p setting.scope.rules.hosts).0 parts.0, rest.0, (Decides-eqb n (next_number setting.scope v p h)).0 rest.1)

-- an entry that is logged
pub log_may : {S : Type 0} (setting : Setting S) (scene : Scene setting) (v : View) (ledger : List Entry) (runs : World) (m : machine.Assembly)
    → Stage setting scene v ledger runs m → Grounds setting scene.actor ledger v → (h : ℕ) (c : Content)
    → to_log setting.scope v h ≡ Some c
    → Enabled setting.scope.rules (net_of setting) m (Logs scene.actor h c)
unfolding to_log quorum_at
log_may {S} setting scene v ledger runs m k ground h c e =
    let parts = only_if_some (is_open setting.scope v h) _ c e in
    let found = passing_some (fits setting.scope v h) (delivered (quorum_at setting.scope v.epoch h) (v.desks h).votes) c parts.1 in
    let open_now = open_there setting scene v ledger runs m h k (open_at setting v h parts.0) in
    let votes = stand_vouch setting scene v ledger runs m k v.epoch h (quorum_in (net_of setting) v.epoch h)
    (body.Filled kind.Deliver h (length_of v h) c) (Said.Deliver v.epoch h (length_of v h) c) refl (ground.logs h c e) in
    subst (λ n. Logged n (length (m.log scene.actor h))) (sym k.here.epoch_is)
    (subst (λ n. Logged v.epoch n) (sym (ap length (k.here.log_is h)))
    (open_now, votes, fits_there setting scene v ledger runs m k h c found.1))
  where
    Logged : ℕ → ℕ → Type 0
    Logged e s = IsOpen setting.scope.rules.hosts (net_of setting) m scene.actor e h s
        × AtLeast (quorum_in (net_of setting) e h) (Vouches (net_of setting) m.ledger e h (Said.Deliver e h s c))
        × Fits setting.scope.rules h (m.log scene.actor h) c

-- What stands behind the rule that a sound node takes, by what the ledger has.
use Rattle.std.proofs.Common.{◌≡◌, ℕ, ◌+◌, ◌<◌, ◌≤◌, ◌==◌, ◌&&◌, true, ℤ, List, Some, None, refl, sym, subst, ◌∙◌, inl, inr, arith, leb-true}
use Rattle.std.specs.Prelude.{Option, is_some, is_none, nat_le, nat_lt, option_and_then, slice_get}
use Rattle.std.specs.List.{position}
use Rattle.std.specs.Option.{option_or}
use Rattle.std.proofs.lemmas.Bool.Decides.{Decides-ltb}
use Rattle.nys_bytes.specs.declared.content.Content.{Content}
use Rattle.nys_bytes.specs.declared.content.Content.TheVariants.{External, Message}
use Rattle.nys_agreement.specs.Events.{IsCandidate}
use Rattle.nys_hosts.specs.Counts.{AtLeast}
use Rattle.nys_hosts.proofs.CountLemmas.{AtLeast-map, hosts_with-some}
use Rattle.nys_stmt.specs.declared.statement.Body.{Body}
use Rattle.nys_stmt.specs.declared.statement.Body.TheVariants as body
use Rattle.nys_stmt.specs.declared.statement.FilledKind.TheVariants as kind
use Rattle.nys_votes.specs.Credit.{lowest_overdue}
use Rattle.nys_votes.specs.Seats.{seat_of}
use Rattle.nys_rules.specs.declared.kept.Attested.{Attested}
use Rattle.nys_rules.specs.declared.rule.Rule.{Rule}
use Rattle.nys_rules.specs.declared.rule.Rule.TheVariants.{Offer, Order, Certificate, Deliver, Log, Attest}
use Rattle.nys_rules.specs.Certificates.{IsAttested, IsCollected, IsNext, IsOwnOrdered, IsVoted}
use Rattle.nys_rules.specs.Forged.{Entry, HasMade}
use Rattle.nys_rules.specs.Heads.{candidate, head, head_content, lowest_head, oldest_input, overdue_head, own_attest, payload_in}
use Rattle.nys_rules.specs.Rules.{Enabled, to_offer}
use Rattle.nys_rules.specs.Scope.{quorum_at, Scope}
use Rattle.nys_rules.specs.Sending.{said_in}
use Rattle.nys_rules.specs.View.{is_open, length_of, next_number, sent_to, View}
use Rattle.nys_rules.specs.World.{Setting}
use Rattle.nys_rules.proofs.CertificateLemmas.{both_true, delivers_by_makers, logs_by_makers, only_if_some, orders_by_makers}
use Rattle.nys_rules.proofs.SearchLemmas.{map_some, or_some}
use Rattle.nys_rules.proofs.SeatCases.{own_case}
use Rattle.nys_laws.specs.Grounds.{HasGrounds, HasNotSaid, IsBacked}
use Rattle.nys_laws.specs.Heard.{WasMade}
use Rattle.nys_laws.specs.Own.{KeepsOwn, own_at, Stage}
use Rattle.nys_laws.specs.Own.Stage.{Offered, Ordered, Delivered}
use Rattle.nys_laws.specs.Rests.{IsSound, RestsOn}
use Rattle.nys_laws.specs.SetUp.{AreHosts}
use Rattle.nys_laws.specs.Vouched.{GuardsLink, IsVouched, IsVouchedByBoth, QuorumVouches}
use Rattle.nys_laws.proofs.LiveLemmas.{honest_guard, honest_host, low_guard}
use Rattle.nys_laws.proofs.OpenLemmas.{attest_next, deliver_open, log_open, offer_open, order_open}
use Rattle.nys_laws.proofs.OwnLemmas.{unsaid}
use Rattle.nys_laws.proofs.ViewLemmas.{deliver_new, offer_by_host, offer_new, order_new, own_of}

-- nothing was said at a stage for which nothing is kept
not_said : (stage : Stage) (g : ℕ) (ledger : List Entry) (v : View) (h : ℕ) → KeepsOwn g ledger v
    → own_at stage (v.desks h) ≡ None → HasNotSaid ledger g stage v h
not_said stage g ledger v h k none content has =
    unsaid ledger g v.epoch (length_of v) (own_of v) stage h content k.own none has

-- the head of a link is a message
head_is : {S : Type 0} (scope : Scope S) (v : View) (h p : ℕ) (content : Content)
    → head_content scope v h p ≡ Some content → IsCandidate v.waiting content
head_is scope v h p content e =
    let k = next_number scope v p h in
    let found = map_some (λ payload. Message p k payload) (head scope v p h) content e in
    subst (IsCandidate v.waiting) found.2 tt

-- what is found through a link
through : (find : ℕ → Option Content) (o : Option ℕ) (content : Content) → option_and_then find o ≡ Some content
    → (p : ℕ) × (find p ≡ Some content)
through find None content e = absurd (cc)
through find (Some p) content e = (p, e)

-- an input that may be offered is the oldest that waits
candidate_is : {S : Type 0} (scope : Scope S) (v : View) (h : ℕ) (content : Content)
    → candidate scope v h ≡ Some content → IsCandidate v.waiting content
unfolding candidate
candidate_is {S} scope v h content e =
    elim (or_some (overdue_head scope v h) (option_or (oldest_input v) (lowest_head scope v h)) content e) [
      | inl overdue ↦ by_link (lowest_overdue (scope.credit v.epoch) (length_of v h) (v.heads h)) overdue
      | inr rest ↦ elim (or_some (oldest_input v) (lowest_head scope v h) content rest.1) [
        | inl input ↦
            let found = map_some External (slice_get v.waiting 0) content input in
            subst (IsCandidate v.waiting) found.2 found.1
        | inr lowest ↦ by_link (position is_some (v.heads h)) lowest.1
      ]
    ]
  where
    by_link : (o : Option ℕ) → option_and_then (head_content scope v h) o ≡ Some content
        → IsCandidate v.waiting content
    by_link o is = let at = through (head_content scope v h) o content is in head_is scope v h at.0 content at.1

-- what a host offers
offered_is : {S : Type 0} (scope : Scope S) (v : View) (h : ℕ) (content : Content)
    → to_offer scope v h ≡ Some content → IsCandidate v.waiting content
unfolding to_offer
offered_is scope v h content e =
    candidate_is scope v h content
    (only_if_some (v.me == h && (is_open scope v h && is_none (v.desks h).offered)) (candidate scope v h) content e).1

-- a guard vouches for what it was heard to say
vouches : {S : Type 0} (setting : Setting S) (ledger : List Entry) (e h : ℕ) (said : Body) (m : ℕ) → AreHosts setting.scope
    → setting.scope.guards e h m ≡ true → WasMade setting ledger m (said_in e said)
    → IsVouched setting ledger e h said m
vouches setting ledger e h said m hosts guard was =
    (guard, λ honest. was (low_guard setting hosts e h m guard) (honest_guard setting hosts e h m guard honest))

-- what is there
some_there : {A : Type 0} (o : Option A) → is_some o ≡ true → (x : A) × (o ≡ Some x)
some_there None e = absurd (cc)
some_there (Some x) e = (x, refl)

-- the makers whose orders of its own offer a host collected vouch for them
collected_vouch : {S : Type 0} (setting : Setting S) (g : ℕ) (ledger : List Entry) (v : View) (h : ℕ) (content : Content)
    → AreHosts setting.scope → IsSound setting g ledger v → IsOwnOrdered setting.scope v h content
    → QuorumVouches setting ledger v.epoch h (body.Filled kind.Order h (length_of v h) content)
collected_vouch {S} setting g ledger v h content hosts k own =
    AtLeast-map (quorum_at setting.scope v.epoch h) (IsCollected v h)
    (IsVouched setting ledger v.epoch h (body.Filled kind.Order h (length_of v h) content)) each own.makers
  where
    each : (m : ℕ) → IsCollected v h m
        → IsVouched setting ledger v.epoch h (body.Filled kind.Order h (length_of v h) content) m
    each m seated =
        let there = some_there (seat_of (v.desks h).orders m) seated in
        let was = (k.hears.desks h).orders m there.0 there.1 in
        let both = sym was.1 ∙ own.offered in
        let same : was.0 ≡ content = cc in
        vouches setting ledger v.epoch h (body.Filled kind.Order h (length_of v h) content) m hosts
        ((k.rests.desks h).orders m there.0 there.1)
        (subst (λ c. WasMade setting ledger m (said_in v.epoch (body.Filled kind.Order h (length_of v h) c))) same was.2)

-- the maker of a vote that is kept vouches for it
voted_vouch : {S : Type 0} (setting : Setting S) (g : ℕ) (ledger : List Entry) (v : View) (h : ℕ) (content : Content)
    → AreHosts setting.scope → IsSound setting g ledger v → (m : ℕ) → IsVoted v h content m
    → IsVouched setting ledger v.epoch h (body.Filled kind.Deliver h (length_of v h) content) m
voted_vouch setting g ledger v h content hosts k m voted =
    vouches setting ledger v.epoch h (body.Filled kind.Deliver h (length_of v h) content) m hosts
    ((k.rests.desks h).votes m voted.0 voted.1)
    (subst (λ c. WasMade setting ledger m (said_in v.epoch (body.Filled kind.Deliver h (length_of v h) c))) voted.2
    ((k.hears.desks h).votes m voted.0 voted.1))

-- a payload that the node attests itself is of a number that it attested
own_is : (k : ℕ) (sent : List (List ℤ)) (o : Option Attested) (payload : List ℤ) → payload_in k sent o ≡ Some payload
    → (range : Attested) × (o ≡ Some range) × (range.first ≤ k) × (k < range.next) × (slice_get sent k ≡ Some payload)
own_is k sent None payload e = absurd (cc)
own_is k sent (Some range) payload e =
    let low = nat_le range.first k in
    let high = nat_lt k range.next in
    let parts = only_if_some (low && high) (slice_get sent k) payload e in
    let tests = both_true low high parts.0 in
    (range, refl, leb-true range.first k tests.0, (Decides-ltb k range.next).0 tests.1, parts.1)

-- so it made the statement
pub own_made : {S : Type 0} (setting : Setting S) (g : ℕ) (ledger : List Entry) (v : View) (p h k : ℕ) (payload : List ℤ)
    → RestsOn setting g ledger v → own_attest setting.scope v p h k ≡ Some payload
    → GuardsLink setting.scope v.epoch p h g
    × HasMade ledger g (said_in v.epoch (body.Attest p h k payload))
unfolding own_attest
own_made setting g ledger v p h k payload rests e =
    let own = own_is k (sent_to setting.scope v p h) (v.attested p h) payload e in
    let was = rests.attested p h own.0 own.1 in
    let one = was.made k own.2 own.3 in
    let both = sym one.1 ∙ own.4 in
    let same : one.0 ≡ payload = cc in
    (was.guards, subst (λ x. HasMade ledger g (said_in v.epoch (body.Attest p h k x))) same one.2)

-- who attests a payload vouches for it, as a guard of both ends
attested_vouch : {S : Type 0} (setting : Setting S) (g : ℕ) (ledger : List Entry) (v : View) (p h k : ℕ) (payload : List ℤ)
    → AreHosts setting.scope → IsSound setting g ledger v → (m : ℕ) → IsAttested setting.scope v p h k payload m
    → IsVouchedByBoth setting ledger v.epoch p h k payload m
attested_vouch setting g ledger v p h k payload hosts sound m attests =
    elim (own_case v.me (own_attest setting.scope v p h k) (v.heard p h k) payload m attests) [
      | inl heard ↦
          let guards = sound.rests.heard p h k m payload heard in
          let was = sound.hears.heard p h k m payload heard in (
            guards,
            λ honest.
                was (low_guard setting hosts v.epoch h m guards.of_host)
                (honest_guard setting hosts v.epoch h m guards.of_host honest),
          )
      | inr own ↦
          let was = own_made setting g ledger v p h k payload sound.rests own.1 in
          let is : g ≡ m = sym (own.0 ∙ sound.rests.host) in (
            subst (GuardsLink setting.scope v.epoch p h) is was.0,
            λ honest. subst (λ x. HasMade ledger x (said_in v.epoch (body.Attest p h k payload))) is was.1,
          )
    ]

-- of more makers than may lie there is one
one_of_many : (n : ℕ) (P : ℕ → Type 0) → AtLeast (n + 1) P → (m : ℕ) × P m
one_of_many n P some =
    let enough = some.enough in
    let found = hosts_with-some some.makers (omega (arith, enough)) in
    (found.0, some.each found.0 found.2)

-- a content that a guard may order has its attestations
next_backed : {S : Type 0} (setting : Setting S) (g : ℕ) (ledger : List Entry) (v : View) (h : ℕ) (content : Content)
    → AreHosts setting.scope → IsSound setting g ledger v → IsNext setting.scope v h content
    → IsBacked setting ledger v h content
unfolding next_number
next_backed setting g ledger v h (External payload) hosts k next = tt
next_backed setting g ledger v h (Message p n payload) hosts k next =
    let makers = AtLeast-map (setting.scope.t v.epoch p + 1) (IsAttested setting.scope v p h n payload)
    (IsVouchedByBoth setting ledger v.epoch p h n payload)
    (attested_vouch setting g ledger v p h n payload hosts k) next.2 in
    let one = one_of_many (setting.scope.t v.epoch p) (IsVouchedByBoth setting ledger v.epoch p h n payload) makers in
    ((one.1.0.sender, next.0, next.1), makers)

-- each rule that is enabled
pub has_grounds : {S : Type 0} (setting : Setting S) → AreHosts setting.scope
    → (g : ℕ) (ledger : List Entry) (v : View) (rule : Rule) → IsSound setting g ledger v
    → Enabled setting.scope v rule → HasGrounds setting g ledger v rule
has_grounds setting hosts g ledger v (Offer h content) k e = (
  offer_open setting.scope v h content e,
  sym k.rests.host ∙ offer_by_host setting.scope v h content e,
  not_said Offered g ledger v h k.own (offer_new setting.scope v h content e),
  offered_is setting.scope v h content e,
)
has_grounds setting hosts g ledger v (Order h content) k e =
    let open_slot = order_open setting.scope v h content e in
    let found = orders_by_makers setting.scope v h content k.seats e in
    let was = (k.hears.desks h).held content found.0 in (
      open_slot,
      not_said Ordered g ledger v h k.own (order_new setting.scope v h content e),
      λ honest.
          was (let low = open_slot.live.host in let few = hosts.few in omega (arith, low, few))
          (honest_host setting h open_slot.live.host honest),
      next_backed setting g ledger v h content hosts k found.1,
    )
has_grounds setting hosts g ledger v (Certificate h content) k e = tt
has_grounds setting hosts g ledger v (Deliver h content) k e = (
  deliver_open setting.scope v h content e,
  not_said Delivered g ledger v h k.own (deliver_new setting.scope v h content e),
  elim (delivers_by_makers setting.scope v h content k.seats e) [
    | inl own ↦ inl (collected_vouch setting g ledger v h content hosts k own)
    | inr rest ↦ elim rest [
      | inl counted ↦ inl ((k.rests.desks h).certified content counted.certified)
      | inr voted ↦ inr
          (AtLeast-map (setting.scope.t v.epoch h + 1) (IsVoted v h content)
          (IsVouched setting ledger v.epoch h (body.Filled kind.Deliver h (length_of v h) content))
          (voted_vouch setting g ledger v h content hosts k) voted)
    ]
  ],
)
has_grounds setting hosts g ledger v (Log h content) k e =
    let at = log_open setting.scope v h content e in (
      at.0,
      AtLeast-map (quorum_at setting.scope v.epoch h) (IsVoted v h content)
          (IsVouched setting ledger v.epoch h (body.Filled kind.Deliver h (length_of v h) content))
          (voted_vouch setting g ledger v h content hosts k) (logs_by_makers setting.scope v h content k.seats e),
      at.1,
    )
has_grounds setting hosts g ledger v (Attest p h n payload) k e =
    let next = attest_next setting.scope v p h n payload e in
    (next.active, subst (GuardsLink setting.scope v.epoch p h) k.rests.host next.guards, next.sent)

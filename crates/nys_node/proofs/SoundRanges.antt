-- What a node says is in range: by the rules that are due, in questions, and at the end of an epoch.
use Rattle.std.proofs.Common.{◌≡◌, ℕ, ◌+◌, ◌<◌, ◌≤◌, ◌&&◌, ◌==◌, Bool, true, ℤ, List, Some, None, refl, ap, sym, subst, ◌∙◌, inl, inr, arith, eqb-true, ltb-true}
use Rattle.std.specs.Prelude.{Option, option_and_then, nat_lt, slice_get, not, is_none}
use Rattle.std.specs.Option.{option_or}
use Rattle.std.proofs.lemmas.Bool.{cases_lt}
use Rattle.std.proofs.lemmas.Option.{get_or_from_slice_get, slice_get_within}
use Rattle.nys_bytes.specs.declared.content.Content.{Content}
use Rattle.nys_bytes.specs.declared.content.Content.TheVariants.{External, Message}
use Rattle.nys_votes.specs.Delivered.{backed, delivered, voted_by}
use Rattle.nys_stmt.specs.declared.statement.Body.TheVariants as body
use Rattle.nys_stmt.specs.declared.statement.FilledKind.TheVariants as kind
use Rattle.nys_stmt.specs.Ranges.{IsContentInRange, IsFilled, IsInRange}
use Rattle.nys_rules.specs.Heads.{candidate, head, head_content, is_allowed, is_attested_next, lowest_head, oldest_input, overdue_head}
use Rattle.nys_rules.specs.Logging.{fits}
use Rattle.nys_rules.specs.Rules.{is_certified, numbered, ordered_content, passing_only, to_attest, to_certify, to_deliver, to_log, to_offer, to_order, unattested}
use Rattle.nys_rules.specs.Scope.{quorum_at, Scope}
use Rattle.nys_rules.specs.Sending.{said_in}
use Rattle.nys_rules.specs.View.{Desk, empty_desk, has_reached, is_attesting, is_live, is_open, length_of, next_number, sent_to, View}
use Rattle.nys_rules.specs.declared.kept.Attested.{Attested}
use Rattle.nys_rules.proofs.CertificateLemmas.{both_true, only_if_some, passing_some, which}
use Rattle.nys_rules.proofs.SearchLemmas.{map_some, or_some}
use Rattle.nys_node.specs.Sound.{IsScope, IsSomeInRange, IsSound}
use Rattle.nys_node.proofs.SoundLogs.{received_short, sent_short}
use Rattle.nys_node.proofs.SoundSeats.{voted_seated}

-- a host is at most 31
pub host_range : {S : Type 0} (scope : Scope S) → IsScope scope → (h : ℕ) → h < scope.rules.hosts → h ≤ 31
host_range scope is h low = omega (arith, low, is.graph.few)

-- a host that is live is one of the protocol
pub live_host : {S : Type 0} (scope : Scope S) (v : View) (h : ℕ) → is_live scope v h ≡ true → h < scope.rules.hosts
unfolding is_live
live_host scope v h e =
    ltb-true h scope.rules.hosts (both_true (nat_lt h scope.rules.hosts) (scope.guards v.epoch h v.me && not (v.retired h)) e).0

-- a host whose slot is open is live, and its log has room
pub open_room : {S : Type 0} (scope : Scope S) (v : View) (h : ℕ) → is_open scope v h ≡ true
    → (is_live scope v h ≡ true) × (length_of v h ≤ 1023)
unfolding is_open
open_room scope v h e =
    let one = both_true (is_live scope v h) (not v.wedged && (has_reached v h && nat_lt (length_of v h) 1024)) e in
    let two = both_true (not v.wedged) (has_reached v h && nat_lt (length_of v h) 1024) one.1 in
    let three = both_true (has_reached v h) (nat_lt (length_of v h) 1024) two.1 in
    (one.0, omega (arith, ltb-true (length_of v h) 1024 three.1))

-- a slot that is open has a number in range
pub open_slot : {S : Type 0} (scope : Scope S) → IsScope scope → (v : View) (h : ℕ) → is_open scope v h ≡ true
    → (h ≤ 31) × (length_of v h ≤ 1023)
open_slot scope is v h e =
    let room = open_room scope v h e in (host_range scope is h (live_host scope v h room.0), room.1)

-- something is known of the slot behind a log only where the log has room
pub desk_room : {S : Type 0} (scope : Scope S) (v : View) → IsSound scope v → (h : ℕ) (get : Desk → Option Content) (c : Content)
    → get empty_desk ≡ None → get (v.desks h) ≡ Some c → length_of v h ≤ 1023
desk_room scope v sound h get c none e = elim (cases_lt (length_of v h) 1024) [
  | inl room ↦ omega (arith, room)
  | inr full ↦ absurd (let both = sym none ∙ ap get (sym (sound.full h full)) ∙ e in cc)
]

-- a content that is there is in range
pub some_range : (o : Option Content) (c : Content) → o ≡ Some c → IsSomeInRange o → IsContentInRange c
some_range o c e in_range = subst IsSomeInRange e in_range

-- an epoch of the scenario is at most 63
pub epoch_range : {S : Type 0} (scope : Scope S) → IsScope scope → (epoch : ℕ) → epoch < scope.epochs → epoch ≤ 63
epoch_range scope is epoch within = omega (arith, within, is.epochs)

-- the number that comes next on a link is in range
pub next_range : {S : Type 0} (scope : Scope S) (v : View) → IsSound scope v → (p h : ℕ) → next_number scope v p h ≤ 1024
unfolding next_number
next_range scope v sound p h = omega (arith, received_short scope.rules p h (v.logs h), sound.short h)

-- what follows from a place that is there
pub then_some : {A B : Type 0} (f : A → Option B) (o : Option A) (y : B) → option_and_then f o ≡ Some y
    → (x : A) × (f x ≡ Some y)
then_some f None y e = absurd (cc)
then_some f (Some x) y e = (x, e)

-- the head of a link is in range
head_range : {S : Type 0} (scope : Scope S) → IsScope scope → (v : View) → IsSound scope v → (h p : ℕ) (c : Content)
    → head_content scope v h p ≡ Some c → IsContentInRange c
unfolding head
head_range scope is v sound h p c e =
    let found = map_some (λ payload. Message p (next_number scope v p h) payload) (head scope v p h) c e in
    elim (which (scope.rules.linked p h) _ _ found.0 found.1) [
      | inl linked ↦
          let ends = is.graph.within p h linked.0 in
          subst IsContentInRange found.2 (host_range scope is p ends.0, omega (arith, next_range scope v sound p h))
      | inr none ↦ absurd (let never = none.1 in cc)
    ]

-- an input is in range
input_range : (v : View) (c : Content) → oldest_input v ≡ Some c → IsContentInRange c
input_range v c e = let found = map_some External (slice_get v.waiting 0) c e in subst IsContentInRange found.2 tt

-- what a host offers is in range
pub candidate_range : {S : Type 0} (scope : Scope S) → IsScope scope → (v : View) → IsSound scope v → (h : ℕ) (c : Content)
    → candidate scope v h ≡ Some c → IsContentInRange c
unfolding candidate
candidate_range scope is v sound h c e =
    elim (or_some (overdue_head scope v h) (option_or (oldest_input v) (lowest_head scope v h)) c e) [
      | inl late ↦ let link = then_some (head_content scope v h) _ c late in head_range scope is v sound h link.0 c link.1
      | inr rest ↦ elim (or_some (oldest_input v) (lowest_head scope v h) c rest.1) [
        | inl input ↦ input_range v c input
        | inr last ↦ let link = then_some (head_content scope v h) _ c last.1 in head_range scope is v sound h link.0 c link.1
      ]
    ]

-- where nothing is there is nothing
none_is : {A : Type 0} (o : Option A) → is_none o ≡ true → o ≡ None
none_is None e = refl
none_is (Some x) e = absurd (cc)

-- a host that may offer: its slot is open, it made no offer, and this is its candidate
pub offer_due : {S : Type 0} (scope : Scope S) (v : View) (h : ℕ) (c : Content) → to_offer scope v h ≡ Some c
    → (v.me ≡ h) × (is_open scope v h ≡ true) × ((v.desks h).offered ≡ None) × (candidate scope v h ≡ Some c)
unfolding to_offer
offer_due scope v h c e =
    let due = only_if_some (v.me == h && (is_open scope v h && is_none (v.desks h).offered)) (candidate scope v h) c e in
    let one = both_true (v.me == h) (is_open scope v h && is_none (v.desks h).offered) due.0 in
    let two = both_true (is_open scope v h) (is_none (v.desks h).offered) one.1 in
    (eqb-true v.me h one.0, two.0, none_is (v.desks h).offered two.1, due.1)

-- a guard that may order: the slot is open, and it holds the content
pub order_due : {S : Type 0} (scope : Scope S) (v : View) (h : ℕ) (c : Content) → to_order scope v h ≡ Some c
    → (is_open scope v h ≡ true) × ((v.desks h).held ≡ Some c)
unfolding to_order
order_due {S} scope v h c e =
    let due = only_if_some (is_open scope v h && is_none (v.desks h).ordered) (passing_only test (v.desks h).held) c e in
    ((both_true (is_open scope v h) (is_none (v.desks h).ordered) due.0).0, (passing_some test (v.desks h).held c due.1).0)
  where
    test : Content → Bool
    test x = is_attested_next scope v h x && is_allowed scope v h x

-- a host that may certify: it is live, it made the offer, and collected a quorum
pub certify_due : {S : Type 0} (scope : Scope S) (v : View) (h : ℕ) (c : Content) → to_certify scope v h ≡ Some c
    → (is_live scope v h ≡ true) × (is_certified scope v h ≡ true) × ((v.desks h).offered ≡ Some c)
unfolding to_certify
certify_due scope v h c e =
    let due = only_if_some _ (v.desks h).offered c e in
    let parts = both_true _ _ due.0 in
    let host = both_true (v.me == h) _ parts.0 in
    let votes = both_true (is_certified scope v h) _ parts.1 in
    ((both_true (is_live scope v h) (not v.wedged) host.1).0, votes.0, due.1)

-- the content that is ordered is that of the own offer, or of a counted certificate
ordered_range : {S : Type 0} (scope : Scope S) (v : View) → IsSound scope v → (h : ℕ) (c : Content)
    → ordered_content scope v h ≡ Some c → IsContentInRange c
unfolding ordered_content
ordered_range scope v sound h c e = elim (which (v.me == h) _ (v.desks h).certified c e) [
  | inl own ↦
      let offered = only_if_some (is_certified scope v h) (v.desks h).offered c own.1 in
      some_range (v.desks h).offered c offered.1 (sound.desks h).offered
  | inr other ↦ some_range (v.desks h).certified c other.1 (sound.desks h).certified
]

-- a content that was voted for is in range
pub voted_range : {S : Type 0} (scope : Scope S) (v : View) → IsSound scope v → (h n : ℕ) (c : Content)
    → voted_by n (v.desks h).votes ≡ Some c → IsContentInRange c
voted_range scope v sound h n c e =
    let seat = voted_seated n (v.desks h).votes c e in
    subst IsContentInRange seat.3 ((sound.desks h).votes seat.0 seat.1 seat.2).0

-- a guard that may vote to deliver: the slot is open, and the content is in range
pub deliver_due : {S : Type 0} (scope : Scope S) (v : View) → IsSound scope v → (h : ℕ) (c : Content) → to_deliver scope v h ≡ Some c
    → (is_open scope v h ≡ true) × IsContentInRange c
unfolding to_deliver
deliver_due scope v sound h c e =
    let due = only_if_some _ _ c e in (
      (both_true (is_open scope v h) (is_none (v.desks h).delivered) due.0).0,
      elim (or_some (ordered_content scope v h) (backed (scope.t v.epoch h) (v.desks h).votes) c due.1) [
        | inl ordered ↦ ordered_range scope v sound h c ordered
        | inr enough ↦ voted_range scope v sound h (scope.t v.epoch h + 1) c enough.1
      ],
    )

-- a guard that may log: the slot is open, and a quorum voted for the content
pub log_due : {S : Type 0} (scope : Scope S) (v : View) (h : ℕ) (c : Content) → to_log scope v h ≡ Some c
    → (is_open scope v h ≡ true) × (delivered (quorum_at scope v.epoch h) (v.desks h).votes ≡ Some c)
unfolding to_log
log_due scope v h c e =
    let due = only_if_some (is_open scope v h) _ c e in
    (due.0, (passing_some (fits scope v h) (delivered (quorum_at scope v.epoch h) (v.desks h).votes) c due.1).0)

-- a content in a slot that is open
filled : {S : Type 0} (scope : Scope S) → IsScope scope → (v : View) (h : ℕ) (c : Content) → is_open scope v h ≡ true
    → IsContentInRange c → IsFilled h (length_of v h) c
filled scope is v h c e in_range = let slot = open_slot scope is v h e in (slot.0, slot.1, in_range)

-- an offer that is due
pub offer_range : {S : Type 0} (scope : Scope S) → IsScope scope → (v : View) → IsSound scope v → v.epoch < scope.epochs → (h : ℕ) (c : Content)
    → to_offer scope v h ≡ Some c → IsInRange (said_in v.epoch (body.Filled kind.Offer h (length_of v h) c))
offer_range scope is v sound within h c e =
    let due = offer_due scope v h c e in
    record {
      epoch = epoch_range scope is v.epoch within;
      body = filled scope is v h c due.1 (candidate_range scope is v sound h c due.3);
    }

-- an order that is due
pub order_range : {S : Type 0} (scope : Scope S) → IsScope scope → (v : View) → IsSound scope v → v.epoch < scope.epochs → (h : ℕ) (c : Content)
    → to_order scope v h ≡ Some c → IsInRange (said_in v.epoch (body.Filled kind.Order h (length_of v h) c))
order_range scope is v sound within h c e =
    let due = order_due scope v h c e in
    record {
      epoch = epoch_range scope is v.epoch within;
      body = filled scope is v h c due.0 (some_range (v.desks h).held c due.1 (sound.desks h).held);
    }

-- a certificate that is due
pub certify_range : {S : Type 0} (scope : Scope S) → IsScope scope → (v : View) → IsSound scope v → v.epoch < scope.epochs → (h : ℕ) (c : Content)
    → to_certify scope v h ≡ Some c → IsInRange (said_in v.epoch (body.Filled kind.Order h (length_of v h) c))
certify_range scope is v sound within h c e =
    let due = certify_due scope v h c e in
    record {
      epoch = epoch_range scope is v.epoch within;
      body = (
        host_range scope is h (live_host scope v h due.0),
        desk_room scope v sound h (λ d. d.offered) c refl due.2,
        some_range (v.desks h).offered c due.2 (sound.desks h).offered,
      );
    }

-- a vote to deliver that is due
pub deliver_range : {S : Type 0} (scope : Scope S) → IsScope scope → (v : View) → IsSound scope v → v.epoch < scope.epochs → (h : ℕ) (c : Content)
    → to_deliver scope v h ≡ Some c → IsInRange (said_in v.epoch (body.Filled kind.Deliver h (length_of v h) c))
deliver_range scope is v sound within h c e =
    let due = deliver_due scope v sound h c e in
    record { epoch = epoch_range scope is v.epoch within; body = filled scope is v h c due.0 due.1 }

-- a number that was sent, with its payload
numbered_some : (sent : List (List ℤ)) (n k : ℕ) (payload : List ℤ) → numbered sent n ≡ Some (k, payload)
    → (n ≡ k) × (slice_get sent k ≡ Some payload)
numbered_some sent n k payload e =
    let found = map_some (λ (x : List ℤ). (n, x)) (slice_get sent n) (k, payload) e in
    let same : n ≡ k = ap (λ (x : ℕ × List ℤ). x.0) found.2 in
    let all : found.0 ≡ payload = ap (λ (x : ℕ × List ℤ). x.1) found.2 in
    (same, subst (λ x. slice_get sent x ≡ Some payload) same (found.1 ∙ ap (λ x. Some x) all))

-- the next number that isn't attested
unattested_some : (sent : List (List ℤ)) (range : Option Attested) (k : ℕ) (payload : List ℤ)
    → unattested sent range ≡ Some (k, payload) → slice_get sent k ≡ Some payload
unattested_some sent None k payload e = absurd (cc)
unattested_some sent (Some range) k payload e = (numbered_some sent range.next k payload e).1

-- a message that was sent has a number in range
pub sent_range : {S : Type 0} (scope : Scope S) → IsScope scope → (v : View) → IsSound scope v → (p h k : ℕ) (payload : List ℤ)
    → p < scope.rules.hosts → slice_get (sent_to scope v p h) k ≡ Some payload → k ≤ 65535
unfolding sent_to
sent_range scope is v sound p h k payload low e =
    omega (arith, slice_get_within _ k payload e, sent_short scope is p h (v.logs p) low (sound.short p))

-- a guard that may attest: the link joins hosts, and the message was sent
pub attest_due : {S : Type 0} (scope : Scope S) (v : View) (p h k : ℕ) (payload : List ℤ)
    → to_attest scope v p h ≡ Some (k, payload)
    → (scope.rules.linked p h ≡ true) × (slice_get (sent_to scope v p h) k ≡ Some payload)
unfolding to_attest is_attesting
attest_due scope v p h k payload e =
    let due = only_if_some _ _ (k, payload) e in
    let guards = both_true (not v.wedged) _ due.0 in
    let links = both_true (scope.rules.linked p h && (is_live scope v p && is_live scope v h)) _ guards.1 in
    let linked = both_true (scope.rules.linked p h) _ links.0 in
    (linked.0, unattested_some (sent_to scope v p h) (v.attested p h) k payload due.1)

-- an attestation of a message that was sent
pub attested_range : {S : Type 0} (scope : Scope S) → IsScope scope → (v : View) → IsSound scope v → v.epoch < scope.epochs
    → (p h k : ℕ) (payload : List ℤ) → scope.rules.linked p h ≡ true → slice_get (sent_to scope v p h) k ≡ Some payload
    → IsInRange (said_in v.epoch (body.Attest p h k payload))
attested_range scope is v sound within p h k payload linked e =
    let ends = is.graph.within p h linked in
    record {
      epoch = epoch_range scope is v.epoch within;
      body = (host_range scope is p ends.0, host_range scope is h ends.1, sent_range scope is v sound p h k payload ends.0 e);
    }

-- an attestation that is due
pub attest_range : {S : Type 0} (scope : Scope S) → IsScope scope → (v : View) → IsSound scope v → v.epoch < scope.epochs
    → (p h k : ℕ) (payload : List ℤ) → to_attest scope v p h ≡ Some (k, payload)
    → IsInRange (said_in v.epoch (body.Attest p h k payload))
attest_range scope is v sound within p h k payload e =
    let due = attest_due scope v p h k payload e in
    attested_range scope is v sound within p h k payload due.0 due.1

-- a question about the slot behind a log that has room
pub ask_range : {S : Type 0} (scope : Scope S) → IsScope scope → (v : View) → v.epoch < scope.epochs → (h : ℕ)
    → is_live scope v h ≡ true → length_of v h ≤ 1023 → IsInRange (said_in v.epoch (body.Ask h (length_of v h)))
ask_range scope is v within h live room = record {
  epoch = epoch_range scope is v.epoch within;
  body = (host_range scope is h (live_host scope v h live), room);
}

-- a report of an entry
pub entry_report_range : {S : Type 0} (scope : Scope S) → IsScope scope → (v : View) → IsSound scope v → v.epoch < scope.epochs
    → (h slot : ℕ) (c : Content) → is_live scope v h ≡ true → slice_get (v.logs h) slot ≡ Some c
    → IsInRange (said_in v.epoch (body.Filled kind.Report h slot c))
entry_report_range scope is v sound within h slot c live e =
    let low = slice_get_within (v.logs h) slot c e in
    record {
      epoch = epoch_range scope is v.epoch within;
      body = (
        host_range scope is h (live_host scope v h live),
        omega (arith, low, sound.short h),
        subst IsContentInRange (get_or_from_slice_get (v.logs h) slot c c e) (sound.logs h slot c low),
      );
    }

-- a report of a vote
pub vote_report_range : {S : Type 0} (scope : Scope S) → IsScope scope → (v : View) → IsSound scope v → v.epoch < scope.epochs
    → (h : ℕ) (c : Content) → is_live scope v h ≡ true → (v.desks h).delivered ≡ Some c
    → IsInRange (said_in v.epoch (body.Filled kind.Report h (length_of v h) c))
vote_report_range scope is v sound within h c live e = record {
  epoch = epoch_range scope is v.epoch within;
  body = (
    host_range scope is h (live_host scope v h live),
    desk_room scope v sound h (λ d. d.delivered) c refl e,
    some_range (v.desks h).delivered c e (sound.desks h).delivered,
  );
}

-- the slot from which on it votes no more
pub frozen_range : {S : Type 0} (scope : Scope S) → IsScope scope → (v : View) → IsSound scope v → v.epoch < scope.epochs
    → (h : ℕ) → is_live scope v h ≡ true → IsInRange (said_in v.epoch (body.Frozen h (v.voted_to h)))
frozen_range scope is v sound within h live = record {
  epoch = epoch_range scope is v.epoch within;
  body = (host_range scope is h (live_host scope v h live), sound.voted_to h);
}

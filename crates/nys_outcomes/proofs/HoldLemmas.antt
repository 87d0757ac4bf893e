-- What a node holds of contents: each input has a payload, and no log has more than 1,024 entries, nor one of no host.
use Rattle.std.proofs.Common.{◌≡◌, ℕ, zero, suc, ◌+◌, ◌<◌, ◌≤◌, ◌&&◌, ◌==◌, Bool, true, false, not, nat_lt, nat_le, eqb-true, ltb-true, cond, ℤ, List, [], ◌∷◌, ◌++◌, drop, length, All, Option, Some, None, refl, sym, subst, inl, inr, arith}
use Rattle.std.specs.Prelude.{find, if◌then◌else◌, is_none, option_and_then, option_map, replicate, slice_get}
use Rattle.std.specs.Option.{option_flatten, option_or}
use Rattle.std.proofs.lemmas.List.{length-append}
use Rattle.std.proofs.lemmas.List.Elements.{All-drop, All-head, All-nil, All-push}
use Rattle.nys_agreement.proofs.TableLemmas.{put_case}
use Rattle.nys_bytes.specs.declared.content.Content.{Content}
use Rattle.nys_bytes.specs.declared.content.Content.TheVariants.{External, Message}
use Rattle.nys_rules.proofs.CertificateLemmas.{both_true, only_if_some, passing_some, which}
use Rattle.nys_rules.proofs.SearchLemmas.{map_some, or_some}
use Rattle.nys_rules.proofs.SeatCases.{voted_case, with_seat_case}
use Rattle.nys_rules.proofs.SearchLemmas.{or_none}
use Rattle.nys_rules.specs.Dropping.{accepted, if_current, inherit_drop, misplaced, misplaced_body, unless, untagged, verdict}
use Rattle.nys_rules.specs.Handling.{with_input}
use Rattle.nys_rules.specs.Heads.{candidate, head, head_content, is_same, lowest_head, oldest_input, overdue_head, with_heads}
use Rattle.nys_rules.specs.Logging.{fits, left_by, logged}
use Rattle.nys_rules.specs.Noting.{at_desk, bases, collected, is_content, noted, noted_body, orderers, retirements, with_attests, with_certificate, with_held, with_orders, with_votes}
use Rattle.nys_rules.specs.Rules.{Enabled, is_certified, ordered_content, to_deliver, to_log, to_offer, to_order}
use Rattle.nys_rules.specs.Scope.{quorum_at, Scope}
use Rattle.nys_rules.specs.Taking.{own_tags, taken, with_deliver, with_kept, with_offer, with_order, with_sent}
use Rattle.nys_rules.specs.View.{Desk, empty_desk, entering, first_view, has_reached, is_live, is_open, length_of, next_number, View, with_links}
use Rattle.nys_rules.specs.declared.cause.DropCause.{DropCause}
use Rattle.nys_rules.specs.declared.cause.DropCause.TheVariants as cause
use Rattle.nys_rules.specs.declared.rule.Rule.{Rule}
use Rattle.nys_rules.specs.declared.rule.Rule.TheVariants.{Offer, Order, Certificate, Deliver, Log, Attest}
use Rattle.nys_source.specs.Tables.{put}
use Rattle.nys_stmt.specs.Ranges.{IsContentSound, IsPayload}
use Rattle.nys_stmt.specs.declared.records.Record.{Record}
use Rattle.nys_stmt.specs.declared.statement.Body.{Body}
use Rattle.nys_stmt.specs.declared.statement.Body.TheVariants as body
use Rattle.nys_stmt.specs.declared.statement.FilledKind.TheVariants as kind
use Rattle.nys_stmt.specs.declared.tags.Tags.{Tags}
use Rattle.nys_votes.specs.Delivered.{backed, delivered, voted_by, votes_for}
use Rattle.nys_votes.specs.Ordered.{is_ordered}
use Rattle.nys_votes.specs.Seats.{lowest, passes, seat_of}
use Rattle.nys_votes.specs.declared.vote.Vote.{Vote}
use Rattle.nys_outcomes.proofs.ReadLemmas.{IsBodyRead}

-- ---- contents

-- the payload of an input is one; of a message nothing is asked
abbrev pub IsWell : Content → Type 0
IsWell (External payload) = IsPayload payload
IsWell (Message p k payload) = Unit {0}

-- so it is of a content that may be there
abbrev WellIf : Option Content → Type 0
WellIf o = (c : Content) → o ≡ Some c → IsWell c

-- of none
well_none : WellIf None
well_none c e = absurd (cc)

-- of one
well_some : (x : Content) → IsWell x → WellIf (Some x)
well_some x well c e = let same : x ≡ c = cc in subst IsWell same well

-- ---- desks

-- all contents on a desk are so
pub record IsWellDesk (desk : Desk) : Type 0 where
  pub offered : WellIf desk.offered
  pub held : WellIf desk.held
  pub ordered : WellIf desk.ordered
  pub certified : WellIf desk.certified
  pub delivered : WellIf desk.delivered
  pub votes : (m : ℕ) (vote : Vote) → seat_of desk.votes m ≡ Some vote → IsWell vote.content

-- nothing stands in empty seats
no_seat_of : {A : Type 0} (n m : ℕ) (x : A) → seat_of (replicate n None) m ≡ Some x → ⊥
no_seat_of zero m x e = absurd (cc)
no_seat_of (suc n) zero x e = absurd (cc)
no_seat_of (suc n) (suc m) x e = no_seat_of n m x e

-- an empty desk
empty_well : IsWellDesk empty_desk
empty_well = record {
  offered = well_none;
  held = well_none;
  ordered = well_none;
  certified = well_none;
  delivered = well_none;
  votes = λ m vote e. absurd (no_seat_of 32 m vote e);
}

-- an offer
offer_well : (content : Content) (desk : Desk) → IsWell content → IsWellDesk desk → IsWellDesk (with_offer content desk)
unfolding with_offer
offer_well content desk well k = record {
  offered = well_some content well;
  held = well_some content well;
  ordered = k.ordered;
  certified = k.certified;
  delivered = k.delivered;
  votes = k.votes;
}

-- an offer that is held
held_well : (content : Content) (desk : Desk) → IsWell content → IsWellDesk desk → IsWellDesk (with_held content desk)
unfolding with_held
held_well content desk well k = record {
  offered = k.offered;
  held = well_some content well;
  ordered = k.ordered;
  certified = k.certified;
  delivered = k.delivered;
  votes = k.votes;
}

-- an order
order_well : (at_host : Bool) (me : ℕ) (content : Content) (tags : List (ℕ × List ℕ)) (desk : Desk) → IsWell content → IsWellDesk desk
    → IsWellDesk (with_order at_host me content tags desk)
unfolding with_order
order_well at_host me content tags desk well k = record {
  offered = k.offered;
  held = k.held;
  ordered = well_some content well;
  certified = k.certified;
  delivered = k.delivered;
  votes = k.votes;
}

-- a certificate that is sent
sent_well : (desk : Desk) → IsWellDesk desk → IsWellDesk (with_sent desk)
unfolding with_sent
sent_well desk k = record {
  offered = k.offered;
  held = k.held;
  ordered = k.ordered;
  certified = k.certified;
  delivered = k.delivered;
  votes = k.votes;
}

-- a vote
deliver_well : (me : ℕ) (content : Content) (tags : List (ℕ × List ℕ)) (desk : Desk) → IsWell content → IsWellDesk desk
    → IsWellDesk (with_deliver me content tags desk)
unfolding with_deliver
deliver_well me content tags desk well k = record {
  offered = k.offered;
  held = k.held;
  ordered = k.ordered;
  certified = k.certified;
  delivered = well_some content well;
  votes = λ m vote e. elim (with_seat_case me (record { content = content; tags = tags }) desk.votes m vote e) [
    | inl old ↦ k.votes m vote old
    | inr new ↦ subst (λ (x : Vote). IsWell x.content) new.1 well
  ];
}

-- orders that are collected
orders_well : (content : Content) (makers : List Tags) (desk : Desk) → IsWellDesk desk → IsWellDesk (with_orders content makers desk)
unfolding with_orders
orders_well content makers desk k = by (is_content desk.offered content)
  where
    by : (b : Bool) → IsWellDesk (if b then record desk { orders = collected makers desk.orders } else desk)
    by true = record {
      offered = k.offered;
      held = k.held;
      ordered = k.ordered;
      certified = k.certified;
      delivered = k.delivered;
      votes = k.votes;
    }
    by false = k

-- a certificate that is counted
counted_well : (q : ℕ) (content : Content) (makers : List Tags) (desk : Desk) → IsWell content → IsWellDesk desk
    → IsWellDesk (with_certificate q content makers desk)
unfolding with_certificate
counted_well q content makers desk well k = by (is_ordered q (orderers content makers desk) && is_none desk.certified)
  where
    by : (b : Bool) → IsWellDesk (if b then record desk { certified = Some content } else desk)
    by true = record {
      offered = k.offered;
      held = k.held;
      ordered = k.ordered;
      certified = well_some content well;
      delivered = k.delivered;
      votes = k.votes;
    }
    by false = k

-- votes of makers
votes_well : (content : Content) (makers : List Tags) (desk : Desk) → IsWell content → IsWellDesk desk → IsWellDesk (with_votes content makers desk)
unfolding with_votes
votes_well content makers desk well k = record {
  offered = k.offered;
  held = k.held;
  ordered = k.ordered;
  certified = k.certified;
  delivered = k.delivered;
  votes = λ m vote e. elim (voted_case content makers desk.votes m vote e) [
    | inl old ↦ k.votes m vote old
    | inr new ↦ subst IsWell (sym new.3) well
  ];
}

-- ---- views

-- all contents of the view are so, logs are short, and what is no host has none
pub record Holds (hosts : ℕ) (v : View) : Type 0 where
  pub short : (h : ℕ) → length (v.logs h) ≤ 1024
  pub none : (h : ℕ) → hosts ≤ h → v.logs h ≡ []
  pub logs : (h : ℕ) → All IsWell (v.logs h)
  pub desks : (h : ℕ) → IsWellDesk (v.desks h)
  pub waiting : All IsPayload v.waiting

-- a desk that is changed
desk_holds : (hosts h : ℕ) (change : Desk → Desk) (v : View) → IsWellDesk (change (v.desks h)) → Holds hosts v → Holds hosts (at_desk h change v)
desk_holds hosts h change v well k = record {
  short = k.short;
  none = k.none;
  logs = k.logs;
  desks = λ x. put_case IsWellDesk v.desks h (change (v.desks h)) x (λ e. well) (λ ne. k.desks x);
  waiting = k.waiting;
}

-- heads that are recorded
heads_hold : {S : Type 0} (scope : Scope S) (hosts h : ℕ) (v : View) → Holds hosts v → Holds hosts (with_heads scope h v)
unfolding with_heads
heads_hold scope hosts h v k = record { short = k.short; none = k.none; logs = k.logs; desks = k.desks; waiting = k.waiting }

-- inputs that are left
left_well : (content : Content) (waiting : List (List ℤ)) → All IsPayload waiting → All IsPayload (left_by content waiting)
left_well (Message p k payload) waiting all = all
left_well (External payload) waiting all = by (is_same (slice_get waiting 0) payload)
  where
    by : (b : Bool) → All IsPayload (if b then drop 1 waiting else waiting)
    by true = All-drop IsPayload 1 waiting all
    by false = all

-- inputs that are left at a host, or anywhere
left_at : (b : Bool) (content : Content) (waiting : List (List ℤ)) → All IsPayload waiting
    → All IsPayload (if b then left_by content waiting else waiting)
left_at true content waiting all = left_well content waiting all
left_at false content waiting all = all

-- a log that grows
logged_holds : {S : Type 0} (scope : Scope S) (hosts h : ℕ) (content : Content) (v : View) → h < hosts → length_of v h ≤ 1023 → IsWell content
    → Holds hosts v → Holds hosts (logged scope h content v)
unfolding logged with_heads with_links
logged_holds scope hosts h content v low room well k = record {
  short = λ x. put_case (λ (l : List Content). length l ≤ 1024) v.logs h (v.logs h ++ content ∷ []) x
      (λ e. let longer = length-append (v.logs h) (content ∷ []) in omega (arith, room, longer)) (λ ne. k.short x);
  none = λ x past. put_case (λ (l : List Content). l ≡ []) v.logs h (v.logs h ++ content ∷ []) x
      (λ e. absurd (omega (arith, low, past, e))) (λ ne. k.none x past);
  logs = λ x. put_case (All IsWell) v.logs h (v.logs h ++ content ∷ []) x
      (λ e. All-push IsWell (v.logs h) content (k.logs h) well) (λ ne. k.logs x);
  desks = λ x. put_case IsWellDesk v.desks h empty_desk x (λ e. empty_well) (λ ne. k.desks x);
  waiting = left_at (v.me == h) content v.waiting k.waiting;
}

-- ---- rules

-- what is found stands in a seat
lowest_seated : {A : Type 0} (test : A → Bool) (seats : List (Option A)) (x : A) → lowest test seats ≡ Some x
    → (m : ℕ) × (seat_of seats m ≡ Some x)
unfolding lowest
lowest_seated test [] x e = absurd (cc)
lowest_seated test (None ∷ seats) x e = let rest = lowest_seated test seats x e in (suc rest.0, rest.1)
lowest_seated {A} test (Some y ∷ seats) x e = by (test y) e (λ found. lowest_seated test seats x found)
  where
    by : (b : Bool) → option_flatten (cond b (Some (Some y)) (find (passes test) seats)) ≡ Some x
        → (option_flatten (find (passes test) seats) ≡ Some x → (m : ℕ) × (seat_of seats m ≡ Some x))
        → (m : ℕ) × (seat_of (Some y ∷ seats) m ≡ Some x)
    by true found rest = (zero, found)
    by false found rest = let there = rest found in (suc there.0, there.1)

-- a content that was voted for
voted_well : (n : ℕ) (desk : Desk) (c : Content) → IsWellDesk desk → voted_by n desk.votes ≡ Some c → IsWell c
unfolding voted_by
voted_well n desk c k e =
    let found = map_some (λ (v : Vote). v.content) (lowest (λ v. nat_le n (votes_for v.content desk.votes)) desk.votes) c e in
    let seat = lowest_seated (λ v. nat_le n (votes_for v.content desk.votes)) desk.votes found.0 found.1 in
    subst IsWell found.2 (k.votes seat.0 found.0 seat.1)

-- the head of a link is a message
head_well : {S : Type 0} (scope : Scope S) (v : View) (h p : ℕ) (c : Content) → head_content scope v h p ≡ Some c → IsWell c
head_well scope v h p c e =
    let found = map_some (λ payload. Message p (next_number scope v p h) payload) (head scope v p h) c e in
    subst IsWell found.2 tt

-- so is that of some link
link_well : {S : Type 0} (scope : Scope S) (v : View) (h : ℕ) (o : Option ℕ) (c : Content) → option_and_then (head_content scope v h) o ≡ Some c → IsWell c
link_well scope v h None c e = absurd (cc)
link_well scope v h (Some p) c e = head_well scope v h p c e

-- the oldest input has a payload
input_well : (waiting : List (List ℤ)) (c : Content) → All IsPayload waiting → option_map External (slice_get waiting 0) ≡ Some c → IsWell c
input_well [] c all e = absurd (cc)
input_well (x ∷ waiting) c all e =
    let same : External x ≡ c = cc in subst IsWell same (All-head IsPayload x waiting all)

-- what a host offers
candidate_well : {S : Type 0} (scope : Scope S) (hosts : ℕ) (v : View) (h : ℕ) (c : Content) → Holds hosts v → candidate scope v h ≡ Some c → IsWell c
unfolding candidate
candidate_well scope hosts v h c k e =
    elim (or_some (overdue_head scope v h) (option_or (oldest_input v) (lowest_head scope v h)) c e) [
      | inl late ↦ link_well scope v h _ c late
      | inr rest ↦ elim (or_some (oldest_input v) (lowest_head scope v h) c rest.1) [
        | inl input ↦ input_well v.waiting c k.waiting input
        | inr last ↦ link_well scope v h _ c last.1
      ]
    ]

-- what is offered by the rule
offered_well : {S : Type 0} (scope : Scope S) (hosts : ℕ) (v : View) (h : ℕ) (c : Content) → Holds hosts v → to_offer scope v h ≡ Some c → IsWell c
unfolding to_offer
offered_well scope hosts v h c k e =
    candidate_well scope hosts v h c k (only_if_some (v.me == h && (is_open scope v h && is_none (v.desks h).offered)) (candidate scope v h) c e).1

-- what is ordered by the rule
ordered_well : {S : Type 0} (scope : Scope S) (hosts : ℕ) (v : View) (h : ℕ) (c : Content) → Holds hosts v → to_order scope v h ≡ Some c → IsWell c
unfolding to_order
ordered_well scope hosts v h c k e =
    let due = only_if_some (is_open scope v h && is_none (v.desks h).ordered) _ c e in
    (k.desks h).held c (passing_some _ (v.desks h).held c due.1).0

-- what counts as ordered
content_well : {S : Type 0} (scope : Scope S) (hosts : ℕ) (v : View) (h : ℕ) (c : Content) → Holds hosts v → ordered_content scope v h ≡ Some c → IsWell c
unfolding ordered_content
content_well scope hosts v h c k e = elim (which (v.me == h) _ (v.desks h).certified c e) [
  | inl own ↦ (k.desks h).offered c (only_if_some (is_certified scope v h) (v.desks h).offered c own.1).1
  | inr other ↦ (k.desks h).certified c other.1
]

-- what is delivered by the rule
delivered_well : {S : Type 0} (scope : Scope S) (hosts : ℕ) (v : View) (h : ℕ) (c : Content) → Holds hosts v → to_deliver scope v h ≡ Some c → IsWell c
unfolding to_deliver
delivered_well scope hosts v h c k e =
    let due = only_if_some (is_open scope v h && is_none (v.desks h).delivered) _ c e in
    elim (or_some (ordered_content scope v h) (backed (scope.t v.epoch h) (v.desks h).votes) c due.1) [
      | inl ordered ↦ content_well scope hosts v h c k ordered
      | inr enough ↦ voted_well (scope.t v.epoch h + 1) (v.desks h) c (k.desks h) enough.1
    ]

-- a host that is live, with room in its log
record HasRoom {S : Type 0} (scope : Scope S) (v : View) (h : ℕ) : Type 0 where
  host : h < scope.rules.hosts
  room : length_of v h ≤ 1023

-- a live host is one
live_host : {S : Type 0} (scope : Scope S) (v : View) (h : ℕ) → is_live scope v h ≡ true → h < scope.rules.hosts
unfolding is_live
live_host scope v h e = ltb-true h scope.rules.hosts (both_true (nat_lt h scope.rules.hosts) (scope.guards v.epoch h v.me && not (v.retired h)) e).0

-- where a slot is open there is room
open_room : {S : Type 0} (scope : Scope S) (v : View) (h : ℕ) → is_open scope v h ≡ true → HasRoom scope v h
unfolding is_open
open_room scope v h e =
    let one = both_true (is_live scope v h) (not v.wedged && (has_reached v h && nat_lt (length_of v h) 1024)) e in
    let two = both_true (not v.wedged) (has_reached v h && nat_lt (length_of v h) 1024) one.1 in
    let three = both_true (has_reached v h) (nat_lt (length_of v h) 1024) two.1 in
    let room = ltb-true (length_of v h) 1024 three.1 in
    record { host = live_host scope v h one.0; room = omega (arith, room) }

-- a log that takes a content by votes
log_holds : {S : Type 0} (scope : Scope S) (v : View) (h : ℕ) (c : Content) → Holds scope.rules.hosts v → to_log scope v h ≡ Some c
    → Holds scope.rules.hosts (logged scope h c (with_kept h c v))
unfolding to_log
log_holds scope v h c k e =
    let due = only_if_some (is_open scope v h) _ c e in
    let room = open_room scope v h due.0 in
    let voted = (passing_some (fits scope v h) (delivered (quorum_at scope v.epoch h) (v.desks h).votes) c due.1).0 in
    logged_holds scope scope.rules.hosts h c (with_kept h c v) room.host room.room (voted_well (quorum_at scope v.epoch h) (v.desks h) c (k.desks h) voted)
    (record { short = k.short; none = k.none; logs = k.logs; desks = k.desks; waiting = k.waiting })

-- each rule that is taken
pub taken_holds : {S : Type 0} (scope : Scope S) (v : View) (rule : Rule) → Enabled scope v rule → Holds scope.rules.hosts v
    → Holds scope.rules.hosts (taken scope v rule)
taken_holds scope v (Offer h c) e k =
    desk_holds scope.rules.hosts h (with_offer c) v (offer_well c (v.desks h) (offered_well scope scope.rules.hosts v h c k e) (k.desks h)) k
taken_holds scope v (Order h c) e k =
    let tags = own_tags scope v h (body.Filled kind.Order h (length_of v h) c) in
    desk_holds scope.rules.hosts h (with_order (v.me == h) v.me c tags) v
    (order_well (v.me == h) v.me c tags (v.desks h) (ordered_well scope scope.rules.hosts v h c k e) (k.desks h)) k
taken_holds scope v (Certificate h c) e k = desk_holds scope.rules.hosts h with_sent v (sent_well (v.desks h) (k.desks h)) k
taken_holds scope v (Deliver h c) e k =
    let tags = own_tags scope v h (body.Filled kind.Deliver h (length_of v h) c) in
    desk_holds scope.rules.hosts h (with_deliver v.me c tags) (record v { voted_to = put v.voted_to h (length_of v h + 1) })
    (deliver_well v.me c tags (v.desks h) (delivered_well scope scope.rules.hosts v h c k e) (k.desks h))
    (record { short = k.short; none = k.none; logs = k.logs; desks = k.desks; waiting = k.waiting })
taken_holds scope v (Log h c) e k = log_holds scope v h c k e
taken_holds scope v (Attest p h n payload) e k =
    heads_hold scope scope.rules.hosts h _ (record { short = k.short; none = k.none; logs = k.logs; desks = k.desks; waiting = k.waiting })

-- ---- records

-- where no cause is given the test passed, and the tests after it gave none
passed : (b : Bool) (drop_cause : DropCause) (rest : Option DropCause) → unless b drop_cause rest ≡ None → (b ≡ true) × (rest ≡ None)
passed true drop_cause rest e = (refl, e)
passed false drop_cause rest e = absurd (cc)

-- the log that inherits an entry
inherit_room : {S : Type 0} (scope : Scope S) (v : View) (e h slot : ℕ) (fit : Bool) → if_current v e (inherit_drop scope v h slot fit) ≡ None
    → slot ≤ 1023 → HasRoom scope v h
inherit_room scope v e h slot fit is low =
    let epoch = passed (e == v.epoch) cause.Epoch (unless (not v.wedged) cause.Wedged (inherit_drop scope v h slot fit)) is in
    let active = passed (not v.wedged) cause.Wedged (inherit_drop scope v h slot fit) epoch.1 in
    let live = passed (is_live scope v h) cause.NotGuard _ active.1 in
    let last = passed ((slot == length_of v h && not (has_reached v h)) && fit) cause.Slot None live.1 in
    let next = both_true (slot == length_of v h && not (has_reached v h)) fit last.0 in
    let same = eqb-true slot (length_of v h) (both_true (slot == length_of v h) (not (has_reached v h)) next.0).0 in
    record { host = live_host scope v h live.0; room = omega (arith, low, same) }

-- an epoch that begins
entering_holds : {S : Type 0} (scope : Scope S) (hosts epoch : ℕ) (base : ℕ → ℕ) (retired : ℕ → Bool) (v : View) → Holds hosts v
    → Holds hosts (entering scope epoch base retired v)
unfolding entering with_links
entering_holds scope hosts epoch base retired v k =
    record { short = k.short; none = k.none; logs = k.logs; desks = λ h. empty_well; waiting = k.waiting }

-- what makers attest
attests_hold : {S : Type 0} (scope : Scope S) (hosts p h n : ℕ) (payload : List ℤ) (makers : List Tags) (v : View) → Holds hosts v
    → Holds hosts (with_heads scope h (with_attests p h n payload makers v))
unfolding with_heads with_attests
attests_hold scope hosts p h n payload makers v k = record { short = k.short; none = k.none; logs = k.logs; desks = k.desks; waiting = k.waiting }

-- a content that was read
pub well_read : (c : Content) → IsContentSound c → IsWell c
well_read (External payload) sound = sound
well_read (Message p k payload) sound = tt

-- each kind of record
body_holds : {S : Type 0} (scope : Scope S) (e : ℕ) (said : Body) (makers : List Tags) (v : View) → misplaced_body scope v e said ≡ None
    → IsBodyRead said → Holds scope.rules.hosts v → Holds scope.rules.hosts (noted_body scope e said makers v)
body_holds scope e (body.Filled kind.Offer h slot c) makers v is well k =
    desk_holds scope.rules.hosts h (with_held c) v (held_well c (v.desks h) (well_read c well.1) (k.desks h)) k
body_holds {S} scope e (body.Filled kind.Order h slot c) makers v is well k = by (v.me == h)
  where
    by : (b : Bool) → Holds scope.rules.hosts (if b then at_desk h (with_orders c makers) v
        else at_desk h (with_certificate (quorum_at scope v.epoch h) c makers) v)
    by true = desk_holds scope.rules.hosts h (with_orders c makers) v (orders_well c makers (v.desks h) (k.desks h)) k
    by false =
        desk_holds scope.rules.hosts h (with_certificate (quorum_at scope v.epoch h) c makers) v
        (counted_well (quorum_at scope v.epoch h) c makers (v.desks h) (well_read c well.1) (k.desks h)) k
body_holds scope e (body.Filled kind.Deliver h slot c) makers v is well k =
    desk_holds scope.rules.hosts h (with_votes c makers) v (votes_well c makers (v.desks h) (well_read c well.1) (k.desks h)) k
body_holds scope e (body.Filled kind.Report h slot c) makers v is well k = k
body_holds scope e (body.Filled kind.Inherit h slot c) makers v is well k =
    let room = inherit_room scope v e h slot (fits scope v h c) is well.0 in
    logged_holds scope scope.rules.hosts h c v room.host room.room (well_read c well.1) k
body_holds scope e (body.Attest p h n payload) makers v is well k = attests_hold scope scope.rules.hosts p h n payload makers v k
body_holds scope e (body.Ask h slot) makers v is well k = k
body_holds scope e body.Wedge makers v is well k =
    record { short = k.short; none = k.none; logs = k.logs; desks = k.desks; waiting = k.waiting }
body_holds scope e (body.Frozen h slot) makers v is well k = k
body_holds scope e (body.Open lengths) makers v is well k = entering_holds scope scope.rules.hosts e (bases lengths) (retirements lengths) v k

-- a record that is noted
pub noted_holds : {S : Type 0} (scope : Scope S) (v : View) (r : Record) → verdict scope v r ≡ None → IsBodyRead r.statement.body
    → Holds scope.rules.hosts v → Holds scope.rules.hosts (noted scope v r)
unfolding noted verdict misplaced
noted_holds scope v r none read k =
    body_holds scope r.statement.epoch r.statement.body (accepted scope r.statement.epoch v.me r) v
    (or_none (misplaced_body scope v r.statement.epoch r.statement.body) (untagged (accepted scope r.statement.epoch v.me r)) none).0 read k

-- an input that waits
pub input_holds : (hosts : ℕ) (payload : List ℤ) (v : View) → IsPayload payload → Holds hosts v → Holds hosts (with_input payload v)
input_holds hosts payload v well k = record {
  short = k.short;
  none = k.none;
  logs = k.logs;
  desks = k.desks;
  waiting = All-push IsPayload v.waiting payload k.waiting well;
}

-- the first view of a node
pub first_holds : {S : Type 0} (scope : Scope S) (hosts me : ℕ) → Holds hosts (first_view scope me)
unfolding first_view entering with_links
first_holds scope hosts me = record {
  short = λ h. omega arith;
  none = λ h past. refl;
  logs = λ h. All-nil IsWell;
  desks = λ h. empty_well;
  waiting = All-nil IsPayload;
}

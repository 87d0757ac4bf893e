-- A view goes on to keep its own statements, whichever rule it takes and whichever record it notes.
use Rattle.std.proofs.Common.{◌≡◌, ◌≢◌, ℕ, ◌+◌, ◌<◌, ◌⊎◌, ◌==◌, ◌&&◌, Bool, true, false, ℤ, List, [], ◌∷◌, ◌++◌, length, Some, None, refl, ap, sym, subst, ◌∙◌, inl, inr, arith, append-nil, length-append}
use Rattle.std.specs.Prelude.{Option, is_none, if◌then◌else◌, nat_lt}
use Rattle.std.proofs.lemmas.Bool.{cases_eq}
use Rattle.std.proofs.lemmas.Bool.Decides.{Decides-eqb, Decides-ltb}
use Rattle.nys_bytes.specs.declared.content.Content.{Content}
use Rattle.nys_agreement.proofs.TableLemmas.{put_here, put_there}
use Rattle.nys_source.specs.Tables.{put}
use Rattle.nys_stmt.specs.declared.records.Record.{Record}
use Rattle.nys_stmt.specs.declared.statement.Body.{Body}
use Rattle.nys_stmt.specs.declared.statement.Body.TheVariants as body
use Rattle.nys_stmt.specs.declared.statement.FilledKind.TheVariants as kind
use Rattle.nys_stmt.specs.declared.statement.Statement.{Statement}
use Rattle.nys_stmt.specs.declared.tags.Tags.{Tags}
use Rattle.nys_votes.specs.Ordered.{is_ordered}
use Rattle.nys_votes.specs.declared.vote.Vote.{Vote}
use Rattle.nys_rules.specs.declared.cause.DropCause.{DropCause}
use Rattle.nys_rules.specs.declared.rule.Rule.{Rule}
use Rattle.nys_rules.specs.declared.rule.Rule.TheVariants.{Offer, Order, Certificate, Deliver, Log, Attest}
use Rattle.nys_rules.specs.Asking.{questions}
use Rattle.nys_rules.specs.Dropping.{accepted, misplaced, misplaced_body, open_drop, unless, untagged, verdict}
use Rattle.nys_rules.specs.Forged.{Entry, with_made}
use Rattle.nys_rules.specs.Handling.{acts_by, acts_by_body}
use Rattle.nys_rules.specs.Heads.{with_heads}
use Rattle.nys_rules.specs.Logging.{logged, with_entry}
use Rattle.nys_rules.specs.Noting.{at_desk, bases, collected, is_content, noted, noted_body, orderers, retirements, with_attests, with_certificate, with_held, with_orders, with_votes}
use Rattle.nys_rules.specs.Packets.{Acts}
use Rattle.nys_rules.specs.Rules.{due, Enabled, to_deliver, to_offer, to_order}
use Rattle.nys_rules.specs.Scope.{quorum_at, Scope}
use Rattle.nys_rules.specs.Taking.{acts_of, certifying, ordering, own_tags, taken, with_deliver, with_kept, with_offer, with_order, with_sent}
use Rattle.nys_rules.specs.Sending.{guards_at, made_for, said_in}
use Rattle.nys_rules.specs.View.{Desk, empty_desk, entering, first_view, is_open, length_of, View, with_links}
use Rattle.nys_rules.proofs.CertificateLemmas.{both_true, only_if_some}
use Rattle.nys_rules.proofs.DueLemmas.{due_enabled}
use Rattle.nys_rules.proofs.SearchLemmas.{or_none}
use Rattle.nys_laws.specs.Own.{body_at, KeepsOwn, own_at, Stage}
use Rattle.nys_laws.specs.Own.Stage.{Offered, Ordered, Delivered}
use Rattle.nys_laws.proofs.ActsLemmas.{aside_answering, aside_made, aside_questions, aside_reporting, AreAside, attest_other}
use Rattle.nys_laws.proofs.OwnLemmas.{GrewOr, IsSaying, own_aside, own_beside, own_enters, own_first, own_grows, own_same, own_says}

-- what a view keeps as its own
abbrev pub own_of : View → Stage → ℕ → Option Content
own_of v stage h = own_at stage (v.desks h)

-- a change of a desk leaves its own statements
abbrev LeavesOwn : (Desk → Desk) → Desk → Type 0
LeavesOwn change desk = (stage : Stage) → own_at stage (change desk) ≡ own_at stage desk

-- so it leaves those of the view
own_left : (h : ℕ) (change : Desk → Desk) (v : View) → LeavesOwn change (v.desks h)
    → (stage : Stage) (x : ℕ) → own_of (at_desk h change v) stage x ≡ own_of v stage x
own_left h change v leaves stage x = elim (cases_eq x h) [
  | inl here ↦
      ap (λ y. own_of (at_desk h change v) stage y) here
      ∙ ap (own_at stage) (put_here v.desks h (change (v.desks h)))
      ∙ leaves stage
      ∙ ap (own_of v stage) (sym here)
  | inr there ↦ ap (own_at stage) (put_there v.desks h (change (v.desks h)) x there)
]

-- an offer that is held
held_leaves : (content : Content) (desk : Desk) → LeavesOwn (with_held content) desk
unfolding with_held
held_leaves content desk Offered = refl
held_leaves content desk Ordered = refl
held_leaves content desk Delivered = refl

-- one of two desks that leave them
either_leaves : (b : Bool) (one other desk : Desk)
    → ((stage : Stage) → own_at stage one ≡ own_at stage desk)
    → ((stage : Stage) → own_at stage other ≡ own_at stage desk)
    → (stage : Stage) → own_at stage (if b then one else other) ≡ own_at stage desk
either_leaves true one other desk p q = p
either_leaves false one other desk p q = q

-- orders that are collected
orders_leave : (content : Content) (makers : List Tags) (desk : Desk)
    → LeavesOwn (with_orders content makers) desk
unfolding with_orders
orders_leave content makers desk =
    either_leaves (is_content desk.offered content) (record desk { orders = collected makers desk.orders }) desk desk
    by_stage (λ stage. refl)
  where
    by_stage : (stage : Stage)
        → own_at stage (record desk { orders = collected makers desk.orders }) ≡ own_at stage desk
    by_stage Offered = refl
    by_stage Ordered = refl
    by_stage Delivered = refl

-- a certificate that is counted
certificate_leaves : (q : ℕ) (content : Content) (makers : List Tags) (desk : Desk)
    → LeavesOwn (with_certificate q content makers) desk
unfolding with_certificate
certificate_leaves q content makers desk =
    either_leaves (is_ordered q (orderers content makers desk) && is_none desk.certified)
    (record desk { certified = Some content }) desk desk by_stage (λ stage. refl)
  where
    by_stage : (stage : Stage)
        → own_at stage (record desk { certified = Some content }) ≡ own_at stage desk
    by_stage Offered = refl
    by_stage Ordered = refl
    by_stage Delivered = refl

-- votes that are kept
votes_leave : (content : Content) (makers : List Tags) (desk : Desk)
    → LeavesOwn (with_votes content makers) desk
unfolding with_votes
votes_leave content makers desk Offered = refl
votes_leave content makers desk Ordered = refl
votes_leave content makers desk Delivered = refl

-- a certificate that is sent
sent_leaves : (desk : Desk) → LeavesOwn with_sent desk
unfolding with_sent
sent_leaves desk Offered = refl
sent_leaves desk Ordered = refl
sent_leaves desk Delivered = refl

-- a change of a desk keeps a content as its own at one stage
pub record SetsOwn (stage : Stage) (content : Content) (change : Desk → Desk) (desk : Desk) : Type 0 where
  pub kept_now : own_at stage (change desk) ≡ Some content
  pub others : (s : Stage) → (own_at s (change desk) ≡ own_at s desk) ⊎ (s ≡ stage)

-- so does the view, of an open slot for which nothing was kept
own_set : (stage : Stage) (h : ℕ) (content : Content) (change : Desk → Desk) (v : View)
    → own_of v stage h ≡ None → SetsOwn stage content change (v.desks h)
    → IsSaying (length_of v) (own_of v) (own_of (at_desk h change v)) stage h content
own_set stage h content change v none sets = record {
  nothing_before = none;
  kept_now = ap (own_at stage) (put_here v.desks h (change (v.desks h))) ∙ sets.kept_now;
  others = λ s x. elim (cases_eq x h) [
    | inl here ↦ elim (sets.others s) [
      | inl same ↦ inl (
          ap (λ y. own_of (at_desk h change v) s y) here
          ∙ ap (own_at s) (put_here v.desks h (change (v.desks h)))
          ∙ same
          ∙ ap (own_of v s) (sym here))
      | inr this ↦ inr (this, here)
    ]
    | inr there ↦ inl (ap (own_at s) (put_there v.desks h (change (v.desks h)) x there))
  ];
}

-- an offer
offer_sets : (content : Content) (desk : Desk) → SetsOwn Offered content (with_offer content) desk
unfolding with_offer
offer_sets content desk = record { kept_now = refl; others = others }
  where
    others : (s : Stage)
        → (own_at s (record desk { offered = Some content; held = Some content }) ≡ own_at s desk) ⊎ (s ≡ Offered)
    others Offered = inr refl
    others Ordered = inl refl
    others Delivered = inl refl

-- an order, with whatever orders are collected
order_others : (content : Content) (orders : List (Option (List (ℕ × List ℕ)))) (desk : Desk) (s : Stage)
    → (own_at s (record desk { ordered = Some content; orders = orders }) ≡ own_at s desk) ⊎ (s ≡ Ordered)
order_others content orders desk Offered = inl refl
order_others content orders desk Ordered = inr refl
order_others content orders desk Delivered = inl refl

-- so does an order that is made
order_sets : (at_host : Bool) (me : ℕ) (content : Content) (tags : List (ℕ × List ℕ)) (desk : Desk)
    → SetsOwn Ordered content (with_order at_host me content tags) desk
unfolding with_order
order_sets at_host me content tags desk =
    record { kept_now = refl; others = order_others content _ desk }

-- a vote, with whatever votes are kept
deliver_others : (content : Content) (votes : List (Option Vote)) (desk : Desk) (s : Stage)
    → (own_at s (record desk { delivered = Some content; votes = votes }) ≡ own_at s desk) ⊎ (s ≡ Delivered)
deliver_others content votes desk Offered = inl refl
deliver_others content votes desk Ordered = inl refl
deliver_others content votes desk Delivered = inr refl

-- so does a vote that is made
deliver_sets : (me : ℕ) (content : Content) (tags : List (ℕ × List ℕ)) (desk : Desk)
    → SetsOwn Delivered content (with_deliver me content tags) desk
unfolding with_deliver
deliver_sets me content tags desk =
    record { kept_now = refl; others = deliver_others content _ desk }

-- what is none
pub none_of : {A : Type 0} (o : Option A) → is_none o ≡ true → o ≡ None
none_of None e = refl
none_of (Some x) e = absurd (cc)

-- a host offers only where it made no Offer
pub offer_new : {S : Type 0} (scope : Scope S) (v : View) (h : ℕ) (content : Content)
    → to_offer scope v h ≡ Some content
    → (v.desks h).offered ≡ None
unfolding to_offer
offer_new scope v h content e =
    let passed = (only_if_some (v.me == h && (is_open scope v h && is_none (v.desks h).offered)) _ content e).0 in
    let rest = (both_true (v.me == h) (is_open scope v h && is_none (v.desks h).offered) passed).1 in
    none_of (v.desks h).offered (both_true (is_open scope v h) (is_none (v.desks h).offered) rest).1

-- only the host offers
pub offer_by_host : {S : Type 0} (scope : Scope S) (v : View) (h : ℕ) (content : Content)
    → to_offer scope v h ≡ Some content → v.me ≡ h
unfolding to_offer
offer_by_host scope v h content e =
    let passed = (only_if_some (v.me == h && (is_open scope v h && is_none (v.desks h).offered)) _ content e).0 in
    (Decides-eqb v.me h).0 (both_true (v.me == h) (is_open scope v h && is_none (v.desks h).offered) passed).0

-- a guard orders only where it made no Order
pub order_new : {S : Type 0} (scope : Scope S) (v : View) (h : ℕ) (content : Content)
    → to_order scope v h ≡ Some content
    → (v.desks h).ordered ≡ None
unfolding to_order
order_new scope v h content e =
    let passed = (only_if_some (is_open scope v h && is_none (v.desks h).ordered) _ content e).0 in
    none_of (v.desks h).ordered (both_true (is_open scope v h) (is_none (v.desks h).ordered) passed).1

-- it votes only where it made no Deliver
pub deliver_new : {S : Type 0} (scope : Scope S) (v : View) (h : ℕ) (content : Content)
    → to_deliver scope v h ≡ Some content
    → (v.desks h).delivered ≡ None
unfolding to_deliver
deliver_new scope v h content e =
    let passed = (only_if_some (is_open scope v h && is_none (v.desks h).delivered) _ content e).0 in
    none_of (v.desks h).delivered (both_true (is_open scope v h) (is_none (v.desks h).delivered) passed).1

-- an empty desk keeps nothing
empty_own : (stage : Stage) → own_at stage empty_desk ≡ None
empty_own Offered = refl
empty_own Ordered = refl
empty_own Delivered = refl

-- a log that took a content is longer, and its desk is empty; the others are as they were
logged_grows : (h : ℕ) (content : Content) (v : View) (x : ℕ)
    → GrewOr (length_of v) (own_of v) (length_of (with_entry h content v)) (own_of (with_entry h content v)) x
logged_grows h content v x = elim (cases_eq x h) [
  | inl here ↦
      let longer = length-append (v.logs h) (content ∷ []) in
      let is = ap (λ y. length_of (with_entry h content v) y) here ∙ ap length (put_here v.logs h (v.logs h ++ content ∷ [])) in
      let was = ap (length_of v) here in
      inl (
        omega (arith, longer, is, was),
        λ stage. ap (λ y. own_of (with_entry h content v) stage y) here ∙ ap (own_at stage) (put_here v.desks h empty_desk) ∙ empty_own stage,
      )
  | inr there ↦ inr (
    ap length (put_there v.logs h (v.logs h ++ content ∷ []) x there),
    λ stage. ap (own_at stage) (put_there v.desks h empty_desk x there),
  )
]

-- a log that grows
logged_own : {S : Type 0} (scope : Scope S) (h : ℕ) (content : Content) (g : ℕ) (ledger : List Entry) (v : View)
    → KeepsOwn g ledger v → KeepsOwn g ledger (logged scope h content v)
unfolding logged with_heads with_links
logged_own scope h content g ledger v k = record {
  host = k.host;
  own = own_grows ledger g v.epoch (length_of v) (own_of v) (length_of (with_entry h content v)) (own_of (with_entry h content v))
      (logged_grows h content v) k.own;
}

-- a ledger to which nothing is added
same_ledger : (g : ℕ) (ledger : List Entry) (v : View) → KeepsOwn g ledger v
    → KeepsOwn g (with_made g [] ledger) v
same_ledger g ledger v k = subst (λ l. KeepsOwn g l v) (sym (append-nil ledger)) k

-- a content that is said for an open slot
said_own : (stage : Stage) (h : ℕ) (content : Content) (change : Desk → Desk) (g : ℕ) (ledger : List Entry) (v : View)
    → own_of v stage h ≡ None → SetsOwn stage content change (v.desks h) → KeepsOwn g ledger v
    → KeepsOwn g (with_made g (said_in v.epoch (body_at stage h (length_of v h) content) ∷ []) ledger) (at_desk h change v)
said_own stage h content change g ledger v none sets k = record {
  host = k.host;
  own = own_says ledger g v.epoch (length_of v) (own_of v) (own_of (at_desk h change v)) stage h content
      (own_set stage h content change v none sets) k.own;
}

-- a desk that changes and leaves its own statements
left_own : (h : ℕ) (change : Desk → Desk) (g : ℕ) (ledger : List Entry) (v : View)
    → LeavesOwn change (v.desks h) → KeepsOwn g ledger v
    → KeepsOwn g (with_made g [] ledger) (at_desk h change v)
left_own h change g ledger v leaves k = same_ledger g ledger (at_desk h change v) (record {
  host = k.host;
  own = own_same ledger g v.epoch (length_of v) (own_of v) (own_of (at_desk h change v)) (own_left h change v leaves) k.own;
})

-- what is made besides
aside_own : (acts : Acts) (g : ℕ) (ledger : List Entry) (v : View) → AreAside v.epoch acts
    → KeepsOwn g ledger v
    → KeepsOwn g (with_made g acts.made ledger) v
aside_own acts g ledger v aside k = record {
  host = k.host;
  own = own_aside acts.made ledger g v.epoch (length_of v) (own_of v) (own_of v) aside (λ stage h. refl) k.own;
}

-- each rule that is enabled
enabled_own : {S : Type 0} (scope : Scope S) (v : View) (rule : Rule) → Enabled scope v rule
    → (g : ℕ) (ledger : List Entry)
    → KeepsOwn g ledger v
    → KeepsOwn g (with_made g (acts_of scope v rule).made ledger) (taken scope v rule)
unfolding made_for ordering certifying with_heads
enabled_own scope v (Offer h content) e g ledger k =
    said_own Offered h content (with_offer content) g ledger v (offer_new scope v h content e) (offer_sets content (v.desks h)) k
enabled_own scope v (Order h content) e g ledger k =
    let tags = own_tags scope v h (body.Filled kind.Order h (length_of v h) content) in
    said_own Ordered h content (with_order (v.me == h) v.me content tags) g ledger v (order_new scope v h content e)
    (order_sets (v.me == h) v.me content tags (v.desks h)) k
enabled_own scope v (Certificate h content) e g ledger k =
    left_own h with_sent g ledger v (sent_leaves (v.desks h)) k
enabled_own scope v (Deliver h content) e g ledger k =
    let tags = own_tags scope v h (body.Filled kind.Deliver h (length_of v h) content) in
    said_own Delivered h content (with_deliver v.me content tags) g ledger
    (record v { voted_to = put v.voted_to h (length_of v h + 1) }) (deliver_new scope v h content e)
    (deliver_sets v.me content tags (v.desks h)) (record { host = k.host; own = k.own })
enabled_own scope v (Log h content) e g ledger k =
    same_ledger g ledger (logged scope h content (with_kept h content v))
    (logged_own scope h content g ledger (with_kept h content v) (record { host = k.host; own = k.own }))
enabled_own scope v (Attest p h n payload) e g ledger k =
    let some = aside_own (acts_of scope v (Attest p h n payload)) g ledger v
    (aside_made scope v.me v.epoch (body.Attest p h n payload) (guards_at scope v h) (guards_at scope v h) (attest_other p h n payload)) k in
    record { host = some.host; own = some.own }

-- a rule that is due
pub rule_own : {S : Type 0} (scope : Scope S) (g : ℕ) (ledger : List Entry) (v : View) (rule : Rule)
    → due scope v ≡ Some rule
    → KeepsOwn g ledger v
    → KeepsOwn g (with_made g (acts_of scope v rule).made ledger) (taken scope v rule)
rule_own scope g ledger v rule is k =
    enabled_own scope v rule (due_enabled scope v rule is).1 g ledger k

-- a test that passed
passed_of : (b : Bool) (cause : DropCause) (rest : Option DropCause) → unless b cause rest ≡ None
    → b ≡ true
passed_of true cause rest e = refl
passed_of false cause rest e = absurd (cc)

-- an Open that isn't dropped is of a later epoch
pub open_later : {S : Type 0} (scope : Scope S) (v : View) (e : ℕ) (lengths : List (Option ℕ))
    → open_drop scope v e lengths ≡ None
    → v.epoch < e
open_later scope v e lengths is =
    let passed = passed_of (nat_lt v.epoch e && nat_lt e scope.epochs) _ _ is in
    (Decides-ltb v.epoch e).0 (both_true (nat_lt v.epoch e) (nat_lt e scope.epochs) passed).0

-- an epoch that begins
entering_own : {S : Type 0} (scope : Scope S) (e : ℕ) (base : ℕ → ℕ) (retired : ℕ → Bool) (g : ℕ) (ledger : List Entry) (v : View)
    → v.epoch < e → KeepsOwn g ledger v → KeepsOwn g ledger (entering scope e base retired v)
unfolding entering with_links
entering_own scope e base retired g ledger v later k = record {
  host = k.host;
  own = own_enters ledger g v.epoch (length_of v) (own_of v) e (length_of v) (λ stage h. own_at stage empty_desk)
      later (λ stage h. empty_own stage) k.own;
}

-- attestations that are heard
heard_own : {S : Type 0} (scope : Scope S) (p h n : ℕ) (payload : List ℤ) (makers : List Tags) (g : ℕ) (ledger : List Entry) (v : View)
    → KeepsOwn g ledger v
    → KeepsOwn g ledger (with_heads scope h (with_attests p h n payload makers v))
unfolding with_heads with_attests
heard_own scope p h n payload makers g ledger v k = record { host = k.host; own = k.own }

-- each kind of record
noted_own : {S : Type 0} (scope : Scope S) (e : ℕ) (said : Body) (makers : List Tags) (g : ℕ) (ledger : List Entry) (v : View)
    → misplaced_body scope v e said ≡ None → KeepsOwn g ledger v
    → KeepsOwn g (with_made g (acts_by_body scope v said makers).made ledger) (noted_body scope e said makers v)
noted_own scope e (body.Filled kind.Offer h slot content) makers g ledger v is k =
    left_own h (with_held content) g ledger v (held_leaves content (v.desks h)) k
noted_own {S} scope e (body.Filled kind.Order h slot content) makers g ledger v is k = by (v.me == h)
  where
    by : (b : Bool)
        → KeepsOwn g (with_made g [] ledger) (if b then at_desk h (with_orders content makers) v
        else at_desk h (with_certificate (quorum_at scope v.epoch h) content makers) v)
    by true =
        left_own h (with_orders content makers) g ledger v (orders_leave content makers (v.desks h)) k
    by false = left_own h (with_certificate (quorum_at scope v.epoch h) content makers) g ledger v
        (certificate_leaves (quorum_at scope v.epoch h) content makers (v.desks h)) k
noted_own scope e (body.Filled kind.Deliver h slot content) makers g ledger v is k =
    left_own h (with_votes content makers) g ledger v (votes_leave content makers (v.desks h)) k
noted_own scope e (body.Attest p h n payload) makers g ledger v is k =
    same_ledger g ledger (with_heads scope h (with_attests p h n payload makers v)) (heard_own scope p h n payload makers g ledger v k)
noted_own scope e (body.Ask h slot) makers g ledger v is k =
    aside_own (acts_by_body scope v (body.Ask h slot) makers) g ledger v (aside_answering scope v h slot makers) k
noted_own scope e body.Wedge makers g ledger v is k =
    let some = aside_own (acts_by_body scope v body.Wedge makers) g ledger v (aside_reporting scope v) k in
    record { host = some.host; own = some.own }
noted_own scope e (body.Filled kind.Report h slot content) makers g ledger v is k = same_ledger g ledger v k
noted_own scope e (body.Frozen h slot) makers g ledger v is k = same_ledger g ledger v k
noted_own scope e (body.Open lengths) makers g ledger v is k =
    same_ledger g ledger (entering scope e (bases lengths) (retirements lengths) v)
    (entering_own scope e (bases lengths) (retirements lengths) g ledger v (open_later scope v e lengths is) k)
noted_own scope e (body.Filled kind.Inherit h slot content) makers g ledger v is k =
    same_ledger g ledger (logged scope h content v) (logged_own scope h content g ledger v k)

-- a record that isn't dropped
pub record_own : {S : Type 0} (scope : Scope S) (g : ℕ) (ledger : List Entry) (v : View) (r : Record) → verdict scope v r ≡ None
    → KeepsOwn g ledger v
    → KeepsOwn g (with_made g (acts_by scope v r).made ledger) (noted scope v r)
unfolding verdict misplaced acts_by noted
record_own scope g ledger v r is k =
    noted_own scope r.statement.epoch r.statement.body (accepted scope r.statement.epoch v.me r) g ledger v
    (or_none (misplaced_body scope v r.statement.epoch r.statement.body) (untagged (accepted scope r.statement.epoch v.me r)) is).0 k

-- the first view
pub first_own : {S : Type 0} (scope : Scope S) (g : ℕ) → KeepsOwn g [] (first_view scope g)
unfolding first_view entering with_links
first_own scope g = record {
  host = refl;
  own = own_first g (λ h. 0) (λ stage h. own_at stage empty_desk) (λ stage h. empty_own stage);
}

-- questions
pub questions_own : {S : Type 0} (scope : Scope S) (g : ℕ) (ledger : List Entry) (v : View)
    → KeepsOwn g ledger v
    → KeepsOwn g (with_made g (questions scope v).made ledger) v
questions_own scope g ledger v k =
    aside_own (questions scope v) g ledger v (aside_questions scope v) k

-- what another party makes
pub beside_own : (party : ℕ) (made : List Statement) (g : ℕ) (ledger : List Entry) (v : View)
    → party ≢ g → KeepsOwn g ledger v
    → KeepsOwn g (with_made party made ledger) v
beside_own party made g ledger v ne k =
    record { host = k.host; own = own_beside party made ledger g v.epoch (length_of v) (own_of v) ne k.own }

-- What a call of a node logs is at hand: the node keeps it still, or the record that it took hands it over.
use Rattle.std.proofs.Common.{◌≡◌, ℕ, ◌<◌, ◌≤◌, ◌==◌, Bool, true, false, ℤ, List, [], ◌∷◌, ◌++◌, length, Some, None, Ok, Err, refl, ap, sym, subst, ◌∙◌, inl, inr, arith, eq-eqb, length-append}
use Rattle.std.specs.Prelude.{Option, Result, if◌then◌else◌, max, nat_le, nat_lt, slice_get}
use Rattle.std.proofs.lemmas.Bool.{cases_eq}
use Rattle.std.proofs.lemmas.List.Elements.{All-append, All-cons, All-nil}
use Rattle.nys_agreement.proofs.TableLemmas.{put_case, put_here, put_there}
use Rattle.nys_bytes.specs.declared.content.Content.{Content}
use Rattle.nys_source.specs.Tables.{put}
use Rattle.nys_stmt.specs.declared.records.Record.{Record}
use Rattle.nys_stmt.specs.declared.statement.Body.{Body}
use Rattle.nys_stmt.specs.declared.statement.Body.TheVariants as body
use Rattle.nys_stmt.specs.declared.statement.FilledKind.TheVariants as kind
use Rattle.nys_stmt.specs.declared.statement.Statement.{Statement}
use Rattle.nys_stmt.specs.declared.tags.Tags.{Tags}
use Rattle.nys_wire.specs.Reading.{whole_record}
use Rattle.nys_wire.specs.declared.fault.WireFault.{WireFault}
use Rattle.nys_wire.specs.declared.fault.WireFault.TheVariants.{At, NoMemory}
use Rattle.nys_rules.specs.declared.cause.DropCause.{DropCause}
use Rattle.nys_rules.specs.declared.rule.Rule.{Rule}
use Rattle.nys_rules.specs.declared.rule.Rule.TheVariants.{Offer, Order, Certificate, Deliver, Log, Attest}
use Rattle.nys_rules.specs.Asking.{answering, questions}
use Rattle.nys_rules.specs.Dropping.{accepted, misplaced, misplaced_body, untagged, verdict}
use Rattle.nys_rules.specs.Handling.{acts_by, acts_by_body, AnswersTo, Asks, Handles, HandlesReading, Takes, TakesWhere, with_input}
use Rattle.nys_rules.specs.Heads.{with_heads}
use Rattle.nys_rules.specs.Logging.{logged}
use Rattle.nys_rules.specs.Noting.{at_desk, noted, noted_body, with_attests, with_certificate, with_orders}
use Rattle.nys_rules.specs.Packets.{Acts, Done, joined, nothing}
use Rattle.nys_rules.specs.Rules.{due}
use Rattle.nys_rules.specs.Scope.{quorum_at, Scope}
use Rattle.nys_rules.specs.Sending.{made_for}
use Rattle.nys_rules.specs.Settling.{Settles}
use Rattle.nys_rules.specs.Taking.{acts_of, certifying, ordering, taken, with_kept}
use Rattle.nys_rules.specs.View.{entering, kept_at, length_of, View, with_links}
use Rattle.nys_rules.proofs.DueLemmas.{due_law}
use Rattle.nys_rules.proofs.SearchLemmas.{or_none}
use Rattle.nys_laws.proofs.EntryWorlds.{kept_within}
use Rattle.nys_laws.proofs.GrownLemmas.{settles_stay, Stays}
use Rattle.nys_laws.proofs.OpenLemmas.{inherit_is, log_open}
use Rattle.nys_world.specs.Grown.{AreAtHand, inherited, IsAtHand}
use Rattle.nys_world.proofs.GrownHosts.{questions_nothing, reporting_nothing}

-- no slot
none_at_hand : (v : View) (told : Option Statement) → AreAtHand v told []
none_at_hand v told = All-nil (IsAtHand v told)

-- one slot
one_at_hand : (v : View) (told : Option Statement) (h slot : ℕ) → IsAtHand v told (h, slot) → AreAtHand v told ((h, slot) ∷ [])
one_at_hand v told h slot is = All-cons (IsAtHand v told) (h, slot) [] is (none_at_hand v told)

-- the one, then the other
both_at_hand : (v : View) (told : Option Statement) (a b : Acts) → AreAtHand v told a.grew → AreAtHand v told b.grew
    → AreAtHand v told (joined a b).grew
both_at_hand v told a b p q = All-append (IsAtHand v told) a.grew b.grew p q

-- of no host's log more entries are forgotten than it has
abbrev pub KeepsWithin : View → Type 0
KeepsWithin v = (h : ℕ) → h < 32 → v.kept_from h ≤ length_of v h

-- a log that grows
logged_within : {S : Type 0} (scope : Scope S) (h : ℕ) (c : Content) (v : View) → KeepsWithin v → KeepsWithin (logged scope h c v)
unfolding logged with_heads with_links
logged_within scope h c v k x low = elim (cases_eq x h) [
  | inl same ↦
      let was = k h (subst (λ y. y < 32) same low) in
      let more = length-append (v.logs h) (c ∷ []) in
      subst (λ y. put v.kept_from h kept y ≤ length (put v.logs h log y)) (sym same)
      (rw (put_here v.kept_from h kept, put_here v.logs h log)
      (kept_within true (v.base h) (v.kept_from h) (length log) (omega (arith, was, more))))
  | inr other ↦ rw (put_there v.kept_from h kept x other, put_there v.logs h log x other) (k x low)
]
  where
    log : List Content
    log = v.logs h ++ c ∷ []

    kept : ℕ
    kept = kept_at true (v.base h) (v.kept_from h) (length (put v.logs h log h))

-- an epoch that begins
entering_within : {S : Type 0} (scope : Scope S) (e : ℕ) (base : ℕ → ℕ) (retired : ℕ → Bool) (v : View) → KeepsWithin v
    → KeepsWithin (entering scope e base retired v)
unfolding entering with_links
entering_within scope e base retired v k h low = kept_within _ (base h) (v.kept_from h) (length (v.logs h)) (k h low)

-- each rule
taken_within : {S : Type 0} (scope : Scope S) (v : View) (rule : Rule) → KeepsWithin v → KeepsWithin (taken scope v rule)
unfolding with_heads
taken_within scope v (Offer h c) k = k
taken_within scope v (Order h c) k = k
taken_within scope v (Certificate h c) k = k
taken_within scope v (Deliver h c) k = k
taken_within scope v (Log h c) k = logged_within scope h c (with_kept h c v) k
taken_within scope v (Attest p h n payload) k = k

-- each kind of record
noted_within : {S : Type 0} (scope : Scope S) (e : ℕ) (said : Body) (makers : List Tags) (v : View) → KeepsWithin v
    → KeepsWithin (noted_body scope e said makers v)
unfolding with_heads with_attests
noted_within scope e (body.Filled kind.Offer h slot c) makers v k = k
noted_within scope e (body.Filled kind.Order h slot c) makers v k = by (v.me == h)
  where
    by : (b : Bool) → KeepsWithin (if b then at_desk h (with_orders c makers) v
        else at_desk h (with_certificate (quorum_at scope v.epoch h) c makers) v)
    by true = k
    by false = k
noted_within scope e (body.Filled kind.Deliver h slot c) makers v k = k
noted_within scope e (body.Attest p h n payload) makers v k = k
noted_within scope e (body.Ask h slot) makers v k = k
noted_within scope e body.Wedge makers v k = k
noted_within scope e (body.Filled kind.Report h slot c) makers v k = k
noted_within scope e (body.Frozen h slot) makers v k = k
noted_within scope e (body.Open lengths) makers v k = entering_within scope e _ _ v k
noted_within scope e (body.Filled kind.Inherit h slot c) makers v k = logged_within scope h c v k

-- neither the base nor what was kept from is past a slot
kept_most : (base from long most : ℕ) → base ≤ most → from ≤ most → kept_at true base from long ≤ most
kept_most base from long most low le = by (nat_le base long)
  where
    by : (b : Bool) → (if b then max base from else from) ≤ most
    by true = omega (arith, low, le)
    by false = le

-- so it is once a rule is taken
taken_keeps : {S : Type 0} (scope : Scope S) (v : View) (rule : Rule) (h s : ℕ) → v.base h ≤ s → v.kept_from h ≤ s
    → ((taken scope v rule).base h ≤ s) × ((taken scope v rule).kept_from h ≤ s)
unfolding with_heads logged with_links
taken_keeps scope v (Offer x c) h s low le = (low, le)
taken_keeps scope v (Order x c) h s low le = (low, le)
taken_keeps scope v (Certificate x c) h s low le = (low, le)
taken_keeps scope v (Deliver x c) h s low le = (low, le)
taken_keeps scope v (Log x c) h s low le = (
  low,
  put_case (λ n. n ≤ s) v.kept_from x _ h
      (λ same. kept_most (v.base x) (v.kept_from x) _ s (subst (λ y. v.base y ≤ s) same low) (subst (λ y. v.kept_from y ≤ s) same le))
      (λ other. le),
)
taken_keeps scope v (Attest p x n payload) h s low le = (low, le)

-- and once the node has settled
settles_keep : {S : Type 0} (scope : Scope S) (v : View) (rules : List Rule) (after : View) (acts : Acts)
    → Settles scope v rules after acts → (h s : ℕ) → v.base h ≤ s → v.kept_from h ≤ s → after.kept_from h ≤ s
settles_keep scope v [] after acts settles h s low le = subst (λ (x : View). x.kept_from h ≤ s) (sym settles.1) le
settles_keep scope v (rule ∷ rules) after acts settles h s low le =
    let next = taken_keeps scope v rule h s low le in
    settles_keep scope (taken scope v rule) rules after settles.1.0 settles.1.1 h s next.0 next.1

-- a rule that is due logs in an open slot, which is kept
rule_at_hand : {S : Type 0} (scope : Scope S) (v : View) (rule : Rule) (rules : List Rule) (after : View) (acts : Acts) (told : Option Statement)
    → due scope v ≡ Some rule → Settles scope (taken scope v rule) rules after acts → KeepsWithin v
    → AreAtHand after told (acts_of scope v rule).grew
unfolding made_for ordering certifying
rule_at_hand scope v (Offer h c) rules after acts told is settles k = none_at_hand after told
rule_at_hand scope v (Order h c) rules after acts told is settles k = none_at_hand after told
rule_at_hand scope v (Certificate h c) rules after acts told is settles k = none_at_hand after told
rule_at_hand scope v (Deliver h c) rules after acts told is settles k = none_at_hand after told
rule_at_hand scope v (Log h c) rules after acts told is settles k =
    let may = (due_law scope).some v (Log h c) is in
    let next = taken_keeps scope v (Log h c) h (length_of v h) (log_open scope v h c may.1).0.reached (k h may.0) in
    one_at_hand after told h (length_of v h)
    (inl (settles_keep scope (taken scope v (Log h c)) rules after acts settles h (length_of v h) next.0 next.1))
rule_at_hand scope v (Attest p h n payload) rules after acts told is settles k = none_at_hand after told

-- so is all that is logged by settling
settled_at_hand : {S : Type 0} (scope : Scope S) (v : View) (rules : List Rule) (after : View) (acts : Acts) (told : Option Statement)
    → Settles scope v rules after acts → KeepsWithin v → AreAtHand after told acts.grew
settled_at_hand scope v [] after acts told settles k = subst (λ (a : Acts). AreAtHand after told a.grew) (sym settles.2) (none_at_hand after told)
settled_at_hand scope v (rule ∷ rules) after acts told settles k =
    let rest = settles.1.0 in
    subst (λ (a : Acts). AreAtHand after told a.grew) (sym settles.1.2)
    (both_at_hand after told (acts_of scope v rule) rest
    (rule_at_hand scope v rule rules after rest told settles.0 settles.1.1 k)
    (settled_at_hand scope (taken scope v rule) rules after rest told settles.1.1 (taken_within scope v rule k)))

-- what is put at the end of a list stands there
last_get : {A : Type 0} (xs : List A) (x : A) → slice_get (xs ++ x ∷ []) (length xs) ≡ Some x
last_get [] x = refl
last_get (y ∷ xs) x = last_get xs x

-- the log has what was inherited
inherited_get : {S : Type 0} (scope : Scope S) (h : ℕ) (c : Content) (v : View)
    → slice_get ((logged scope h c v).logs h) (length_of v h) ≡ Some c
unfolding logged with_heads with_links
inherited_get scope h c v =
    ap (λ log. slice_get log (length_of v h)) (put_here v.logs h (v.logs h ++ c ∷ [])) ∙ last_get (v.logs h) c

-- the statement that a record of the epoch has
abbrev statement_of : (e : ℕ) → Body → Option Statement
statement_of e said = Some (record { epoch = e; body = said })

-- a statement hands over the content of its slot
handed_over : (e h slot long : ℕ) (c : Content) → slot ≡ long
    → inherited (statement_of e (body.Filled kind.Inherit h slot c)) h long ≡ Some c
handed_over e h slot long c is = rw (eq-eqb h h refl, eq-eqb slot long is) refl

-- a record of a content that is inherited hands it over
record_at_hand : {S : Type 0} (scope : Scope S) (v after : View) (e : ℕ) (said : Body) (makers : List Tags)
    → misplaced_body scope v e said ≡ None → Stays (noted_body scope e said makers v) after
    → AreAtHand after (statement_of e said) (acts_by_body scope v said makers).grew
unfolding answering
record_at_hand scope v after e (body.Filled kind.Offer h slot c) makers placed stays = none_at_hand after (statement_of e (body.Filled kind.Offer h slot c))
record_at_hand scope v after e (body.Filled kind.Order h slot c) makers placed stays = none_at_hand after (statement_of e (body.Filled kind.Order h slot c))
record_at_hand scope v after e (body.Filled kind.Deliver h slot c) makers placed stays = none_at_hand after (statement_of e (body.Filled kind.Deliver h slot c))
record_at_hand scope v after e (body.Attest p h k payload) makers placed stays = none_at_hand after (statement_of e (body.Attest p h k payload))
record_at_hand scope v after e (body.Ask h slot) makers placed stays = none_at_hand after (statement_of e (body.Ask h slot))
record_at_hand scope v after e body.Wedge makers placed stays =
    subst (AreAtHand after (statement_of e body.Wedge)) (sym (reporting_nothing scope v)) (none_at_hand after (statement_of e body.Wedge))
record_at_hand scope v after e (body.Filled kind.Report h slot c) makers placed stays = none_at_hand after (statement_of e (body.Filled kind.Report h slot c))
record_at_hand scope v after e (body.Frozen h slot) makers placed stays = none_at_hand after (statement_of e (body.Frozen h slot))
record_at_hand scope v after e (body.Open lengths) makers placed stays = none_at_hand after (statement_of e (body.Open lengths))
record_at_hand scope v after e (body.Filled kind.Inherit h slot c) makers placed stays =
    let next = inherit_is scope v e h slot c placed in
    let there = stays h (length_of v h) c (inherited_get scope h c v) in
    one_at_hand after (statement_of e (body.Filled kind.Inherit h slot c)) h (length_of v h)
    (inr (handed_over e h slot (length_of v h) c next.slot_is ∙ sym there))

-- by bytes that a node is given
pub handles_at_hand : {S : Type 0} (scope : Scope S) (v after : View) (frame : List ℕ) (done : Done) → KeepsWithin v
    → Handles scope v frame after done → AreAtHand after done.statement done.acts.grew
unfolding verdict misplaced acts_by noted
handles_at_hand {S} scope v after frame done k handles = by_reading (whole_record frame) handles
  where
    Claim : Done → Type 0
    Claim d = AreAtHand after d.statement d.acts.grew

    by_verdict : (r : Record) (why : Option DropCause) → verdict scope v r ≡ why → AnswersTo scope v r why after done
        → Claim done
    by_verdict r (Some why) is answers = subst Claim (sym answers.1) (none_at_hand after None)
    by_verdict r None is answers =
        let makers = accepted scope r.statement.epoch v.me r in
        let placed = (or_none (misplaced_body scope v r.statement.epoch r.statement.body) (untagged makers) is).0 in
        let settles = answers.settles in
        let first = noted_body scope r.statement.epoch r.statement.body makers v in
        subst Claim (sym answers.told)
        (both_at_hand after (Some r.statement) (acts_by_body scope v r.statement.body makers) answers.rest
        (record_at_hand scope v after r.statement.epoch r.statement.body makers placed
        (settles_stay scope first settles.rules after answers.rest settles.settles))
        (settled_at_hand scope first settles.rules after answers.rest (Some r.statement) settles.settles
        (noted_within scope r.statement.epoch r.statement.body makers v k)))

    by_reading : (reading : Result Record WireFault) → HandlesReading scope v reading after done → Claim done
    by_reading (Ok r) answers = by_verdict r (verdict scope v r) refl answers
    by_reading (Err (At place fault)) answers = subst Claim (sym answers.1) (none_at_hand after None)
    by_reading (Err NoMemory) answers = absurd answers

-- by an input that it is handed
pub takes_at_hand : {S : Type 0} (scope : Scope S) (v after : View) (payload : List ℤ) (done : Done) → KeepsWithin v
    → Takes scope v payload after done → AreAtHand after done.statement done.acts.grew
takes_at_hand {S} scope v after payload done k takes = by_room (nat_lt (length v.waiting) 1024) takes
  where
    Claim : Done → Type 0
    Claim d = AreAtHand after d.statement d.acts.grew

    by_room : (room : Bool) → TakesWhere scope v payload room after done → Claim done
    by_room true goes =
        subst Claim (sym goes.told)
        (both_at_hand after None nothing goes.rest (none_at_hand after None)
        (settled_at_hand scope (with_input payload v) goes.settles.rules after goes.rest None goes.settles.settles k))
    by_room false told = subst Claim (sym told.1) (none_at_hand after None)

-- where it asks
pub asks_at_hand : {S : Type 0} (scope : Scope S) (v after : View) (done : Done) → KeepsWithin v → Asks scope v after done
    → AreAtHand after done.statement done.acts.grew
asks_at_hand scope v after done k asks =
    subst (λ (d : Done). AreAtHand after d.statement d.acts.grew) (sym asks.told)
    (both_at_hand after None (questions scope v) asks.rest
    (subst (AreAtHand after None) (sym (questions_nothing scope v)) (none_at_hand after None))
    (settled_at_hand scope v asks.settles.rules after asks.rest None asks.settles.settles k))

-- of another call that logged the same by the same statement it is so too
pub same_at_hand : (v : View) (given done : Done) → done.acts ≡ given.acts → done.statement ≡ given.statement
    → AreAtHand v given.statement given.acts.grew → AreAtHand v done.statement done.acts.grew
same_at_hand v given done acts statement hand =
    subst (λ (a : Acts). AreAtHand v done.statement a.grew) (sym acts)
    (subst (λ told. AreAtHand v told given.acts.grew) (sym statement) hand)

-- and of what is told of a call
pub told_at_hand : (v : View) (done : Done) (told : Option Statement) (slots : List (ℕ × ℕ)) → done.statement ≡ told
    → done.acts.grew ≡ slots → AreAtHand v done.statement done.acts.grew → AreAtHand v told slots
told_at_hand v done told slots statement grew hand =
    subst (λ xs. AreAtHand v told xs) grew (subst (λ s. AreAtHand v s done.acts.grew) statement hand)

-- What a call of a node logs is in the logs of hosts.
use Rattle.std.proofs.Common.{◌≡◌, ℕ, ◌<◌, ◌≤◌, ◌==◌, ◌&&◌, not, Bool, true, false, ℤ, List, [], ◌∷◌, ◌++◌, length, map, Some, None, Ok, Err, refl, ap, sym, subst, ◌∙◌, arith}
use Rattle.std.specs.Prelude.{Option, Result, filter, flat_map, fold, if◌then◌else◌, nat_lt}
use Rattle.std.proofs.lemmas.Bool.{ltb-true}
use Rattle.std.proofs.lemmas.List.Elements.{All-append, All-cons, All-nil}
use Rattle.nys_stmt.specs.declared.records.Record.{Record}
use Rattle.nys_stmt.specs.declared.statement.Body.{Body}
use Rattle.nys_stmt.specs.declared.statement.Body.TheVariants as body
use Rattle.nys_stmt.specs.declared.statement.FilledKind.TheVariants as kind
use Rattle.nys_stmt.specs.declared.tags.Tags.{Tags}
use Rattle.nys_wire.specs.Reading.{whole_record}
use Rattle.nys_wire.specs.declared.fault.WireFault.{WireFault}
use Rattle.nys_wire.specs.declared.fault.WireFault.TheVariants.{At, NoMemory}
use Rattle.nys_rules.specs.declared.cause.DropCause.{DropCause}
use Rattle.nys_rules.specs.declared.cause.DropCause.TheVariants as cause
use Rattle.nys_rules.specs.declared.rule.Rule.{Rule}
use Rattle.nys_rules.specs.declared.rule.Rule.TheVariants.{Offer, Order, Certificate, Deliver, Log, Attest}
use Rattle.nys_rules.specs.Asking.{all_hosts, answering, asked_hosts, questions}
use Rattle.nys_rules.specs.Dropping.{accepted, if_current, inherit_drop, misplaced, misplaced_body, unless, untagged, verdict}
use Rattle.nys_rules.specs.Ending.{reporting, testimony}
use Rattle.nys_rules.specs.Handling.{acts_by, acts_by_body, AnswersTo, Asks, Handles, HandlesReading, Takes, TakesWhere, with_input}
use Rattle.nys_rules.specs.Logging.{fits}
use Rattle.nys_rules.specs.Noting.{noted}
use Rattle.nys_rules.specs.Packets.{Acts, all_joined, Done, joined, nothing}
use Rattle.nys_rules.specs.Scope.{Scope}
use Rattle.nys_rules.specs.Sending.{made_for, to_guards, to_olympus}
use Rattle.nys_rules.specs.Settling.{IsAmongHosts, Settles}
use Rattle.nys_rules.specs.Taking.{acts_of, certifying, ordering, taken}
use Rattle.nys_rules.specs.View.{is_live, length_of, View}
use Rattle.nys_rules.proofs.CertificateLemmas.{both_true}
use Rattle.nys_rules.proofs.DueLemmas.{due_law}
use Rattle.nys_rules.proofs.SearchLemmas.{or_none}
use Rattle.nys_world.specs.Grown.{AreOfHosts}

-- a host's slot
abbrev IsOfHost : ℕ × ℕ → Type 0
IsOfHost x = x.0 < 32

-- no slot
no_slot : AreOfHosts []
no_slot = All-nil IsOfHost

-- one slot
one_slot : (h slot : ℕ) → h < 32 → AreOfHosts ((h, slot) ∷ [])
one_slot h slot low = All-cons IsOfHost (h, slot) [] low no_slot

-- the one, then the other
both_slots : (a b : Acts) → AreOfHosts a.grew → AreOfHosts b.grew → AreOfHosts (joined a b).grew
both_slots a b p q = All-append IsOfHost a.grew b.grew p q

-- acts one after another, each of which logs nothing
all_nothing : {A : Type 0} (acts : A → Acts) → ((x : A) → (acts x).grew ≡ []) → (before : Acts) (xs : List A) → before.grew ≡ []
    → (fold joined before (map acts xs)).grew ≡ []
all_nothing acts none before [] first = first
all_nothing acts none before (x ∷ xs) first =
    all_nothing acts none (joined before (acts x)) xs (ap (λ z. z ++ (acts x).grew) first ∙ none x)

-- nothing is logged where the epoch ends
pub reporting_nothing : {S : Type 0} (scope : Scope S) (v : View) → (reporting scope v).grew ≡ []
unfolding reporting made_for
reporting_nothing scope v =
    all_nothing (to_olympus scope v) (λ said. refl) nothing (flat_map (testimony v) (filter (is_live scope v) all_hosts)) refl

-- nor by questions
pub questions_nothing : {S : Type 0} (scope : Scope S) (v : View) → (questions scope v).grew ≡ []
unfolding questions made_for
questions_nothing {S} scope v = by v.wedged
  where
    ask : ℕ → Acts
    ask h = to_guards scope v h (body.Ask h (length_of v h))

    by : (b : Bool) → (if b then nothing else all_joined (map ask (asked_hosts scope v))).grew ≡ []
    by true = refl
    by false = all_nothing ask (λ h. refl) nothing (asked_hosts scope v) refl

-- by a rule that is due
rule_slots : {S : Type 0} (scope : Scope S) (v : View) (rule : Rule) → IsAmongHosts rule → AreOfHosts (acts_of scope v rule).grew
unfolding made_for ordering certifying
rule_slots scope v (Offer h content) low = no_slot
rule_slots scope v (Order h content) low = no_slot
rule_slots scope v (Certificate h content) low = no_slot
rule_slots scope v (Deliver h content) low = no_slot
rule_slots scope v (Log h content) low = one_slot h (length_of v h) low
rule_slots scope v (Attest p h k payload) low = no_slot

-- by settling
settled_slots : {S : Type 0} (scope : Scope S) (v : View) (rules : List Rule) (after : View) (acts : Acts)
    → Settles scope v rules after acts → AreOfHosts acts.grew
settled_slots scope v [] after acts settles = subst (λ (a : Acts). AreOfHosts a.grew) (sym settles.2) no_slot
settled_slots scope v (rule ∷ rules) after acts settles =
    let low = ((due_law scope).some v rule settles.0).0 in
    let rest = settles.1.0 in
    subst (λ (a : Acts). AreOfHosts a.grew) (sym settles.1.2)
    (both_slots (acts_of scope v rule) rest (rule_slots scope v rule low)
    (settled_slots scope (taken scope v rule) rules after rest settles.1.1))

-- where no cause is given the test passed, and the tests after it gave none
went_on : (b : Bool) (why : DropCause) (rest : Option DropCause) → unless b why rest ≡ None → (b ≡ true) × (rest ≡ None)
went_on true why rest e = (refl, e)
went_on false why rest e = absurd (cc)

-- what a node inherits is the log of a host
inherits_low : {S : Type 0} (scope : Scope S) (v : View) (e h slot : ℕ) (fit : Bool) → scope.rules.hosts ≤ 32
    → if_current v e (inherit_drop scope v h slot fit) ≡ None → h < 32
unfolding is_live
inherits_low scope v e h slot fit few none =
    let epoch = went_on (e == v.epoch) cause.Epoch (unless (not v.wedged) cause.Wedged (inherit_drop scope v h slot fit)) none in
    let active = went_on (not v.wedged) cause.Wedged (inherit_drop scope v h slot fit) epoch.1 in
    let live = went_on (is_live scope v h) cause.NotGuard _ active.1 in
    let low = both_true (nat_lt h scope.rules.hosts) (scope.guards v.epoch h v.me && not (v.retired h)) live.0 in
    omega (arith, few, ltb-true h scope.rules.hosts low.0)

-- by a record that has its place
body_slots : {S : Type 0} (scope : Scope S) (v : View) (e : ℕ) (said : Body) (makers : List Tags) → scope.rules.hosts ≤ 32
    → misplaced_body scope v e said ≡ None → AreOfHosts (acts_by_body scope v said makers).grew
unfolding answering
body_slots scope v e (body.Filled kind.Offer h slot content) makers few placed = no_slot
body_slots scope v e (body.Filled kind.Order h slot content) makers few placed = no_slot
body_slots scope v e (body.Filled kind.Deliver h slot content) makers few placed = no_slot
body_slots scope v e (body.Attest p h k payload) makers few placed = no_slot
body_slots scope v e (body.Ask h slot) makers few placed = no_slot
body_slots scope v e body.Wedge makers few placed = subst AreOfHosts (sym (reporting_nothing scope v)) no_slot
body_slots scope v e (body.Filled kind.Report h slot content) makers few placed = no_slot
body_slots scope v e (body.Frozen h slot) makers few placed = no_slot
body_slots scope v e (body.Open lengths) makers few placed = no_slot
body_slots scope v e (body.Filled kind.Inherit h slot content) makers few placed =
    one_slot h (length_of v h) (inherits_low scope v e h slot (fits scope v h content) few placed)

-- the same of a record that isn't dropped
record_slots : {S : Type 0} (scope : Scope S) (v : View) (r : Record) → scope.rules.hosts ≤ 32 → verdict scope v r ≡ None
    → AreOfHosts (acts_by scope v r).grew
unfolding acts_by verdict misplaced
record_slots scope v r few none =
    let placed = (or_none (misplaced scope v r.statement) (untagged (accepted scope r.statement.epoch v.me r)) none).0 in
    body_slots scope v r.statement.epoch r.statement.body (accepted scope r.statement.epoch v.me r) few placed

-- by bytes that a node is given
pub handles_hosts : {S : Type 0} (scope : Scope S) (v after : View) (frame : List ℕ) (done : Done) → scope.rules.hosts ≤ 32
    → Handles scope v frame after done → AreOfHosts done.acts.grew
handles_hosts {S} scope v after frame done few handles = by_reading (whole_record frame) handles
  where
    by_verdict : (r : Record) (why : Option DropCause) → verdict scope v r ≡ why → AnswersTo scope v r why after done
        → AreOfHosts done.acts.grew
    by_verdict r (Some why) is answers = subst (λ (d : Done). AreOfHosts d.acts.grew) (sym answers.1) no_slot
    by_verdict r None is answers =
        subst (λ (d : Done). AreOfHosts d.acts.grew) (sym answers.told)
        (both_slots (acts_by scope v r) answers.rest (record_slots scope v r few is)
        (settled_slots scope (noted scope v r) answers.settles.rules after answers.rest answers.settles.settles))

    by_reading : (reading : Result Record WireFault) → HandlesReading scope v reading after done → AreOfHosts done.acts.grew
    by_reading (Ok r) answers = by_verdict r (verdict scope v r) refl answers
    by_reading (Err (At place fault)) answers = subst (λ (d : Done). AreOfHosts d.acts.grew) (sym answers.1) no_slot
    by_reading (Err NoMemory) answers = absurd answers

-- by an input that it is handed
pub takes_hosts : {S : Type 0} (scope : Scope S) (v after : View) (payload : List ℤ) (done : Done)
    → Takes scope v payload after done → AreOfHosts done.acts.grew
takes_hosts {S} scope v after payload done takes = by_room (nat_lt (length v.waiting) 1024) takes
  where
    by_room : (room : Bool) → TakesWhere scope v payload room after done → AreOfHosts done.acts.grew
    by_room true goes =
        subst (λ (d : Done). AreOfHosts d.acts.grew) (sym goes.told)
        (both_slots nothing goes.rest no_slot
        (settled_slots scope (with_input payload v) goes.settles.rules after goes.rest goes.settles.settles))
    by_room false told = subst (λ (d : Done). AreOfHosts d.acts.grew) (sym told.1) no_slot

-- where it asks
pub asks_hosts : {S : Type 0} (scope : Scope S) (v after : View) (done : Done) → Asks scope v after done → AreOfHosts done.acts.grew
asks_hosts scope v after done asks =
    subst (λ (d : Done). AreOfHosts d.acts.grew) (sym asks.told)
    (both_slots (questions scope v) asks.rest (subst AreOfHosts (sym (questions_nothing scope v)) no_slot)
    (settled_slots scope v asks.settles.rules after asks.rest asks.settles.settles))

-- What holds of a node's view at each step holds after each call.
use Rattle.std.proofs.Common.{◌≡◌, ℕ, Bool, true, false, ℤ, List, [], ◌∷◌, Some, None, Ok, Err, refl, ap, sym, subst, ◌∙◌}
use Rattle.std.specs.Prelude.{Option, Result, length, nat_lt}
use Rattle.nys_stmt.specs.declared.records.Record.{Record}
use Rattle.nys_wire.specs.Reading.{whole_record}
use Rattle.nys_wire.specs.declared.fault.WireFault.{WireFault}
use Rattle.nys_wire.specs.declared.fault.WireFault.TheVariants.{At, NoMemory}
use Rattle.nys_rules.specs.declared.cause.DropCause.{DropCause}
use Rattle.nys_rules.specs.declared.rule.Rule.{Rule}
use Rattle.nys_rules.specs.Dropping.{verdict}
use Rattle.nys_rules.specs.Handling.{AnswersTo, Asks, Handles, HandlesReading, Takes, TakesWhere, with_input}
use Rattle.nys_rules.specs.Noting.{noted}
use Rattle.nys_rules.specs.Packets.{Acts, Done}
use Rattle.nys_rules.specs.Rules.{due}
use Rattle.nys_rules.specs.Scope.{Scope}
use Rattle.nys_rules.specs.Settling.{Settles, SettlesInto}
use Rattle.nys_rules.specs.Taking.{taken}
use Rattle.nys_rules.specs.View.{View}
use Rattle.nys_rules.proofs.SettleLemmas.{settles_into_quiet}

-- a fact of views that each rule keeps where it is due
abbrev pub RulesKeep : {S : Type 0} → Scope S → (View → Type 0) → Type 0
RulesKeep scope Fact = (v : View) (rule : Rule) → due scope v ≡ Some rule → Fact v → Fact (taken scope v rule)

-- a fact that each record keeps where it isn't dropped
abbrev pub RecordsKeep : {S : Type 0} → Scope S → (View → Type 0) → Type 0
RecordsKeep scope Fact = (v : View) (r : Record) → verdict scope v r ≡ None → Fact v → Fact (noted scope v r)

-- a fact that each input keeps where it finds room
abbrev pub InputsKeep : (View → Type 0) → Type 0
InputsKeep Fact = (v : View) (payload : List ℤ) → nat_lt (length v.waiting) 1024 ≡ true → Fact v
    → Fact (with_input payload v)

-- settling keeps it
pub settles_keep : {S : Type 0} (scope : Scope S) (Fact : View → Type 0) → RulesKeep scope Fact
    → (v : View) (rules : List Rule)
    (after : View) (acts : Acts) → Settles scope v rules after acts → Fact v → Fact after
settles_keep scope Fact keep v [] after acts s f = subst Fact (sym s.1) f
settles_keep scope Fact keep v (rule ∷ rules) after acts s f =
    settles_keep scope Fact keep (taken scope v rule) rules after s.1.0 s.1.1 (keep v rule s.0 f)

-- the same where the rules are not told
pub settles_into_keep : {S : Type 0} (scope : Scope S) (Fact : View → Type 0) → RulesKeep scope Fact
    → (v after : View) (acts : Acts)
    → SettlesInto scope v after acts → Fact v → Fact after
settles_into_keep scope Fact keep v after acts s f = settles_keep scope Fact keep v s.rules after acts s.settles f

-- bytes that a node is given keep it
pub handles_keep : {S : Type 0} (scope : Scope S) (Fact : View → Type 0) → RulesKeep scope Fact
    → RecordsKeep scope Fact
    → (v after : View) (frame : List ℕ) (done : Done) → Handles scope v frame after done → Fact v → Fact after
handles_keep {S} scope Fact rules records v after frame done handles f = by_reading (whole_record frame) handles
  where
    by_verdict : (r : Record) (cause : Option DropCause) → verdict scope v r ≡ cause
        → AnswersTo scope v r cause after done → Fact after
    by_verdict r (Some cause) is answers = subst Fact (sym answers.0) f
    by_verdict r None is answers =
        settles_into_keep scope Fact rules (noted scope v r) after answers.rest answers.settles (records v r is f)

    by_reading : (reading : Result Record WireFault) → HandlesReading scope v reading after done → Fact after
    by_reading (Ok r) answers = by_verdict r (verdict scope v r) refl answers
    by_reading (Err (At place kind)) answers = subst Fact (sym answers.0) f
    by_reading (Err NoMemory) answers = absurd answers

-- an input that it is handed keeps it
pub takes_keep : {S : Type 0} (scope : Scope S) (Fact : View → Type 0) → RulesKeep scope Fact
    → InputsKeep Fact
    → (v after : View) (payload : List ℤ) (done : Done) → Takes scope v payload after done → Fact v
    → Fact after
takes_keep {S} scope Fact rules inputs v after payload done takes f = by_room (nat_lt (length v.waiting) 1024) refl takes
  where
    by_room : (room : Bool) → nat_lt (length v.waiting) 1024 ≡ room
        → TakesWhere scope v payload room after done → Fact after
    by_room true is goes =
        settles_into_keep scope Fact rules (with_input payload v) after goes.rest goes.settles (inputs v payload is f)
    by_room false is told = subst Fact (sym told.0) f

-- questions that it asks keep it
pub asks_keep : {S : Type 0} (scope : Scope S) (Fact : View → Type 0) → RulesKeep scope Fact
    → (v after : View) (done : Done)
    → Asks scope v after done → Fact v → Fact after
asks_keep scope Fact rules v after done asks f = settles_into_keep scope Fact rules v after asks.rest asks.settles f

-- after each call nothing is due, where nothing was before it
pub handles_quiet : {S : Type 0} (scope : Scope S) (v after : View) (frame : List ℕ) (done : Done)
    → Handles scope v frame after done → due scope v ≡ None → due scope after ≡ None
handles_quiet {S} scope v after frame done handles quiet = by_reading (whole_record frame) handles
  where
    by_verdict : (r : Record) (cause : Option DropCause) → AnswersTo scope v r cause after done → due scope after ≡ None
    by_verdict r (Some cause) answers = ap (due scope) answers.0 ∙ quiet
    by_verdict r None answers = settles_into_quiet scope (noted scope v r) after answers.rest answers.settles

    by_reading : (reading : Result Record WireFault) → HandlesReading scope v reading after done → due scope after ≡ None
    by_reading (Ok r) answers = by_verdict r (verdict scope v r) answers
    by_reading (Err (At place kind)) answers = ap (due scope) answers.0 ∙ quiet
    by_reading (Err NoMemory) answers = absurd answers

-- an input that it is handed
pub takes_quiet : {S : Type 0} (scope : Scope S) (v after : View) (payload : List ℤ) (done : Done)
    → Takes scope v payload after done → due scope v ≡ None → due scope after ≡ None
takes_quiet {S} scope v after payload done takes quiet = by_room (nat_lt (length v.waiting) 1024) takes
  where
    by_room : (room : Bool) → TakesWhere scope v payload room after done → due scope after ≡ None
    by_room true goes = settles_into_quiet scope (with_input payload v) after goes.rest goes.settles
    by_room false told = ap (due scope) told.0 ∙ quiet

-- questions that it asks
pub asks_quiet : {S : Type 0} (scope : Scope S) (v after : View) (done : Done) → Asks scope v after done → due scope after ≡ None
asks_quiet scope v after done asks = settles_into_quiet scope v after asks.rest asks.settles

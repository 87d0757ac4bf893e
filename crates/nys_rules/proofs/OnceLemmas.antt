-- What the calls of nodes and of the Olympus make of them is one thing each.
use Rattle.std.proofs.Common.{◌≡◌, ℕ, Bool, true, false, ℤ, List, Some, None, Ok, Err, ap, sym, subst, ◌∙◌}
use Rattle.std.specs.Prelude.{Option, Result, length, nat_lt}
use Rattle.nys_stmt.specs.declared.records.Record.{Record}
use Rattle.nys_wire.specs.Reading.{whole_record}
use Rattle.nys_wire.specs.declared.fault.WireFault.{WireFault}
use Rattle.nys_wire.specs.declared.fault.WireFault.TheVariants.{At, NoMemory}
use Rattle.nys_rules.specs.declared.cause.DropCause.{DropCause}
use Rattle.nys_rules.specs.declared.decision.Opened.{Opened}
use Rattle.nys_rules.specs.declared.decision.Opened.TheVariants as opens
use Rattle.nys_rules.specs.Asking.{questions}
use Rattle.nys_rules.specs.Dropping.{accepted, verdict}
use Rattle.nys_rules.specs.Handling.{acts_by, AnswersTo, Asks, done_by, Goes, Handles, HandlesReading, noted_by, Notes, Takes, TakesWhere, with_input}
use Rattle.nys_rules.specs.Noting.{noted}
use Rattle.nys_rules.specs.Olympus.{after_decision, after_retirement, Decides, Hears, HearsOf, HearsReading, olympus_verdict, OlympusView, Opens, OpensWith, Retires, Wedges, WedgesWhere}
use Rattle.nys_rules.specs.Packets.{Acts, Done, joined, nothing}
use Rattle.nys_rules.specs.Scope.{Scope}
use Rattle.nys_rules.specs.View.{View}
use Rattle.nys_rules.proofs.SettleLemmas.{settles_into_once}

-- a relation holds of two things only
abbrev pub IsOnce : {A B : Type 0} → (A → B → Type 0) → Type 0
IsOnce {A} {B} Rel = (x y : A) (a b : B) → Rel x a → Rel y b → (x ≡ y) × (a ≡ b)

-- a noted record
pub notes_once : {S : Type 0} (scope : Scope S) (v : View) (r : Record) → IsOnce (Notes scope v r)
notes_once scope v r x y a b p q =
    let same = settles_into_once scope (noted scope v r) x y p.rest q.rest p.settles q.settles in (
      same.0,
      p.told
          ∙ ap (λ rest. noted_by (joined (acts_by scope v r) rest) r (accepted scope r.statement.epoch v.me r)) same.1
          ∙ sym q.told,
    )

-- a record, by the cause for which it is dropped
pub answers_once : {S : Type 0} (scope : Scope S) (v : View) (r : Record) (cause : Option DropCause)
    → IsOnce (AnswersTo scope v r cause)
answers_once scope v r (Some cause) x y a b p q = (p.0 ∙ sym q.0, p.1 ∙ sym q.1)
answers_once scope v r None x y a b p q = notes_once scope v r x y a b p q

-- bytes, by what they read as
handles_reading_once : {S : Type 0} (scope : Scope S) (v : View) (reading : Result Record WireFault)
    → IsOnce (HandlesReading scope v reading)
handles_reading_once scope v (Ok r) x y a b p q = answers_once scope v r (verdict scope v r) x y a b p q
handles_reading_once scope v (Err (At place kind)) x y a b p q = (p.0 ∙ sym q.0, p.1 ∙ sym q.1)
handles_reading_once scope v (Err NoMemory) x y a b p q = absurd p

-- a node that is given bytes
pub handles_once : {S : Type 0} (scope : Scope S) (v : View) (frame : List ℕ) → IsOnce (Handles scope v frame)
handles_once scope v frame = handles_reading_once scope v (whole_record frame)

-- a node that settles after what it did at once
pub goes_once : {S : Type 0} (scope : Scope S) (v : View) (first : Acts) → IsOnce (Goes scope v first)
goes_once scope v first x y a b p q =
    let same = settles_into_once scope v x y p.rest q.rest p.settles q.settles in
    (same.0, p.told ∙ ap (λ rest. done_by (joined first rest)) same.1 ∙ sym q.told)

-- an input that finds room or doesn't
takes_where_once : {S : Type 0} (scope : Scope S) (v : View) (payload : List ℤ) (room : Bool)
    → IsOnce (TakesWhere scope v payload room)
takes_where_once scope v payload true x y a b p q = goes_once scope (with_input payload v) nothing x y a b p q
takes_where_once scope v payload false x y a b p q = (p.0 ∙ sym q.0, p.1 ∙ sym q.1)

-- a node that is handed an input
pub takes_once : {S : Type 0} (scope : Scope S) (v : View) (payload : List ℤ) → IsOnce (Takes scope v payload)
takes_once scope v payload = takes_where_once scope v payload (nat_lt (length v.waiting) 1024)

-- a node that asks
pub asks_once : {S : Type 0} (scope : Scope S) (v : View) → IsOnce (Asks scope v)
asks_once scope v = goes_once scope v (questions scope v)

-- a record at the Olympus
hears_of_once : {S : Type 0} (scope : Scope S) (o : OlympusView) (r : Record) (cause : Option DropCause)
    → IsOnce (HearsOf scope o r cause)
hears_of_once scope o r (Some cause) x y a b p q = (p.0 ∙ sym q.0, p.1 ∙ sym q.1)
hears_of_once scope o r None x y a b p q = (p.0 ∙ sym q.0, p.1 ∙ sym q.1)

-- bytes at the Olympus, by what they read as
hears_reading_once : {S : Type 0} (scope : Scope S) (o : OlympusView) (reading : Result Record WireFault)
    → IsOnce (HearsReading scope o reading)
hears_reading_once scope o (Ok r) x y a b p q = hears_of_once scope o r (olympus_verdict scope o r) x y a b p q
hears_reading_once scope o (Err (At place kind)) x y a b p q = (p.0 ∙ sym q.0, p.1 ∙ sym q.1)
hears_reading_once scope o (Err NoMemory) x y a b p q = absurd p

-- the Olympus that is given bytes
pub hears_once : {S : Type 0} (scope : Scope S) (o : OlympusView) (frame : List ℕ)
    → IsOnce (Hears scope o frame)
hears_once scope o frame = hears_reading_once scope o (whole_record frame)

-- the Olympus that is told to decide a log
pub decides_once : {S : Type 0} (scope : Scope S) (o : OlympusView) (h : ℕ) → IsOnce (Decides scope o h)
decides_once scope o h x y a b p q =
    let same = p.told ∙ sym q.told in (p.after_is ∙ ap (after_decision scope o h) same ∙ sym q.after_is, same)

-- the Olympus that is told to give a host up
pub retires_once : (o : OlympusView) (h : ℕ) → IsOnce (Retires o h)
retires_once o h x y a b p q =
    let same = p.told ∙ sym q.told in (p.after_is ∙ ap (after_retirement o h) same ∙ sym q.after_is, same)

-- the Olympus that is told to end its epoch, as far as it is ending
wedges_where_once : {S : Type 0} (scope : Scope S) (o : OlympusView) (ending : Bool) (x y : OlympusView) (c d : Bool) (a b : Done)
    → WedgesWhere scope o ending x c a → WedgesWhere scope o ending y d b → (x ≡ y) × (c ≡ d) × (a ≡ b)
wedges_where_once scope o true x y c d a b p q = (p.0 ∙ sym q.0, p.1 ∙ sym q.1, p.2 ∙ sym q.2)
wedges_where_once scope o false x y c d a b p q = (p.0 ∙ sym q.0, p.1 ∙ sym q.1, p.2 ∙ sym q.2)

-- the same as it is
pub wedges_once : {S : Type 0} (scope : Scope S) (o x y : OlympusView) (c d : Bool) (a b : Done)
    → Wedges scope o x c a → Wedges scope o y d b → (x ≡ y) × (c ≡ d) × (a ≡ b)
wedges_once scope o = wedges_where_once scope o o.wedged

-- the Olympus that opens an epoch, by its answer
opens_with_once : {S : Type 0} (scope : Scope S) (o : OlympusView) (answer : Opened)
    → IsOnce (OpensWith scope o answer)
opens_with_once scope o (opens.Done epoch) x y a b p q = (p.0 ∙ sym q.0, p.1 ∙ sym q.1)
opens_with_once scope o opens.NotWedged x y a b p q = (p.0 ∙ sym q.0, p.1 ∙ sym q.1)
opens_with_once scope o opens.NoNext x y a b p q = (p.0 ∙ sym q.0, p.1 ∙ sym q.1)
opens_with_once scope o (opens.NotAll h) x y a b p q = (p.0 ∙ sym q.0, p.1 ∙ sym q.1)

-- the same with its answer
pub opens_once : {S : Type 0} (scope : Scope S) (o x y : OlympusView) (answer other : Opened) (a b : Done)
    → Opens scope o x answer a → Opens scope o y other b → (x ≡ y) × (answer ≡ other) × (a ≡ b)
opens_once scope o x y answer other a b p q =
    let told = p.told ∙ sym q.told in
    let same = opens_with_once scope o answer x y a b p.with_it (subst (λ z. OpensWith scope o z y b) (sym told) q.with_it) in
    (same.0, told, same.1)

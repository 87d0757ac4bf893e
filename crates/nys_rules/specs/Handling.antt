-- What the calls of a node do, from the view before to the view after.
use Rattle.std.specs.Prelude.{◌≡◌, ℕ, ◌<◌, ◌==◌, nat_lt, Bool, true, false, ℤ, List, [], ◌∷◌, ◌++◌, filter, length, map, Option, Some, None, Result, Ok, Err}
use Rattle.std.specs.List.{list_any}
use Rattle.nys_rules.specs.declared.limits.TheConstants.{MAX_WAITING}
use Rattle.nys_stmt.specs.declared.records.Record.{Record}
use Rattle.nys_stmt.specs.declared.statement.Body.{Body}
use Rattle.nys_stmt.specs.declared.statement.Body.TheVariants.{Filled, Ask, Wedge}
use Rattle.nys_stmt.specs.declared.statement.FilledKind.TheVariants.{Inherit}
use Rattle.nys_stmt.specs.declared.tags.Tags.{Tags}
use Rattle.nys_wire.specs.Reading.{whole_record}
use Rattle.nys_wire.specs.declared.fault.WireFault.{WireFault}
use Rattle.nys_wire.specs.declared.fault.WireFault.TheVariants.{At, NoMemory}
use Rattle.nys_rules.specs.declared.cause.DropCause.{DropCause}
use Rattle.nys_rules.specs.declared.cause.DropCause.TheVariants.{Malformed, QueueFull}
use Rattle.nys_rules.specs.Asking.{answering, questions}
use Rattle.nys_rules.specs.Dropping.{accepted, verdict}
use Rattle.nys_rules.specs.Ending.{reporting}
use Rattle.nys_rules.specs.Noting.{noted}
use Rattle.nys_rules.specs.Packets.{Acts, Done, joined, nothing}
use Rattle.nys_rules.specs.Scope.{olympus, Scope}
use Rattle.nys_rules.specs.Settling.{SettlesInto}
use Rattle.nys_rules.specs.View.{length_of, View}

-- what a node does at once by an accepted record, before it settles: it answers a question, tells what
-- it knows where the epoch ends, or logs what it inherits
abbrev pub acts_by_body : {S : Type 0} → Scope S → View → Body → List Tags → Acts
acts_by_body scope v (Ask h slot) makers = answering scope v h slot makers
acts_by_body scope v Wedge makers = reporting scope v
acts_by_body scope v (Filled Inherit h slot content) makers =
    record nothing { grew = (h, length_of v h) ∷ [] }
acts_by_body scope v _ makers = nothing

-- the same of a record
unfoldable pub acts_by : {S : Type 0} → Scope S → View → Record → Acts
acts_by scope v r = acts_by_body scope v r.statement.body (accepted scope r.statement.epoch v.me r)

-- what is told of a call that dropped what it was given
abbrev pub dropped_by : DropCause → Done
dropped_by cause = record {
  acts = nothing;
  statement = None;
  accepted = [];
  olympus = false;
  dropped = Some cause;
}

-- what is told of a call that was given no record, or dropped none
abbrev pub done_by : Acts → Done
done_by acts = record {
  acts = acts;
  statement = None;
  accepted = [];
  olympus = false;
  dropped = None;
}

-- the hosts among makers, in order
abbrev pub hosts_among : List Tags → List ℕ
hosts_among makers = filter (λ m. nat_lt m olympus) (map (λ m. m.maker) makers)

-- what is told of a record that was noted: its statement, and whose tags were accepted
abbrev pub noted_by : Acts → Record → List Tags → Done
noted_by acts r makers = record {
  acts = acts;
  statement = Some r.statement;
  accepted = hosts_among makers;
  olympus = list_any (λ m. m.maker == olympus) makers;
  dropped = None;
}

-- the view settles, after the node did these things at once, and this is what is told of a record
pub record Notes {S : Type 0} (scope : Scope S) (v : View) (r : Record) (after : View) (done : Done) : Type 0 where
  -- what the node did by its rules
  pub rest : Acts
  pub settles : SettlesInto scope (noted scope v r) after rest
  pub told : done ≡ noted_by (joined (acts_by scope v r) rest) r (accepted scope r.statement.epoch v.me r)

-- a record that is dropped changes nothing; another is noted, and the node settles
abbrev pub AnswersTo : {S : Type 0} → Scope S → View → Record → Option DropCause → View → Done → Type 0
AnswersTo scope v r (Some cause) after done = (after ≡ v) × (done ≡ dropped_by cause)
AnswersTo scope v r None after done = Notes scope v r after done

-- bytes that are no record are dropped too
abbrev pub HandlesReading : {S : Type 0} → Scope S → View → Result Record WireFault → View → Done → Type 0
HandlesReading scope v (Ok r) after done = AnswersTo scope v r (verdict scope v r) after done
HandlesReading scope v (Err (At place kind)) after done = (after ≡ v) × (done ≡ dropped_by (Malformed place kind))
HandlesReading scope v (Err NoMemory) after done = ⊥

-- the node is given bytes
abbrev pub Handles : {S : Type 0} → Scope S → View → List ℕ → View → Done → Type 0
Handles scope v frame after done = HandlesReading scope v (whole_record frame) after done

-- the view in which an input waits
abbrev pub with_input : List ℤ → View → View
with_input payload v = record v { waiting = v.waiting ++ payload ∷ [] }

-- the node settles after it did these things
pub record Goes {S : Type 0} (scope : Scope S) (v : View) (first : Acts) (after : View) (done : Done) : Type 0 where
  pub rest : Acts
  pub settles : SettlesInto scope v after rest
  pub told : done ≡ done_by (joined first rest)

-- an input finds room in the queue or doesn't
abbrev pub TakesWhere : {S : Type 0} → Scope S → View → List ℤ → (has_room : Bool) → View → Done → Type 0
TakesWhere scope v payload true after done = Goes scope (with_input payload v) nothing after done
TakesWhere scope v payload false after done = (after ≡ v) × (done ≡ dropped_by QueueFull)

-- the node is handed an input: it waits, and the node settles; at most 1,024 wait
abbrev pub Takes : {S : Type 0} → Scope S → View → List ℤ → View → Done → Type 0
Takes scope v payload after done = TakesWhere scope v payload (nat_lt (length v.waiting) MAX_WAITING) after done

-- the node is told to ask: it asks, and settles
abbrev pub Asks : {S : Type 0} → Scope S → View → View → Done → Type 0
Asks scope v after done = Goes scope v (questions scope v) after done

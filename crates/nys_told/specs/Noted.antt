-- What notes tell of hosts. A note is the number of an event, and what is told of that event.
use Rattle.std.specs.Prelude.{ℕ, List, Contains}
use Rattle.nys_rules.specs.declared.decision.Decision.TheVariants as decide
use Rattle.nys_rules.specs.declared.decision.Retired.TheVariants as retire
use Rattle.nys_rules.specs.declared.notice.Note.{Note}
use Rattle.nys_rules.specs.declared.notice.NoteKind.{NoteKind}
use Rattle.nys_rules.specs.declared.notice.NoteKind.TheVariants as note

-- a note tells this, of whatever event
abbrev pub IsNoted : List Note → NoteKind → Type 0
IsNoted notes kind = (event : ℕ) × Contains notes (record { event = event; kind = kind })

-- a note tells that the log of host h is decided at n entries
abbrev pub IsDecidedAt : List Note → (h n : ℕ) → Type 0
IsDecidedAt notes h n = IsNoted notes (note.Decide h (decide.Decided n))

-- a note tells that host h is given up
abbrev pub IsRetired : List Note → (h : ℕ) → Type 0
IsRetired notes h = IsNoted notes (note.Retire h retire.Done)

-- The lines of a report: a run with every host after it, replicas, and notes.
use Rattle.std.specs.Prelude.{ℕ, ◌++◌, Bool, if◌then◌else◌, ℤ, List, codes, decimal}
use Rattle.std.specs.List.{flat_map}
use Rattle.nys_rules.specs.declared.decision.Decision.{Decision}
use Rattle.nys_rules.specs.declared.decision.Decision.TheVariants as decide
use Rattle.nys_rules.specs.declared.decision.Opened.{Opened}
use Rattle.nys_rules.specs.declared.decision.Opened.TheVariants as opens
use Rattle.nys_rules.specs.declared.decision.Retired.{Retired}
use Rattle.nys_rules.specs.declared.decision.Retired.TheVariants as retire
use Rattle.nys_rules.specs.declared.notice.Note.{Note}
use Rattle.nys_rules.specs.declared.notice.NoteKind.{NoteKind}
use Rattle.nys_rules.specs.declared.notice.NoteKind.TheVariants as note
use Rattle.nys_source.specs.Rules.{Rules}
use Rattle.nys_source.specs.RunText.{steps_text}
use Rattle.nys_source.specs.Runs.{after_run}
use Rattle.nys_source.specs.declared.step.Step.{Step}
use Rattle.nys_runs.specs.HostLines.{hosts_text}
use Rattle.nys_text.specs.Printed.{outs_text, state_text}

-- a host is named that is decided or retired already
abbrev pub settled_words : ℕ → List ℕ
settled_words h = codes "settled " ++ decimal h

-- the answer to a decision about host h
abbrev pub decision_words : ℕ → Decision → List ℕ
decision_words h (decide.Decided len) = codes "decided " ++ (decimal h ++ (codes " at " ++ decimal len))
decision_words h (decide.Undecided supported frozen) =
    codes "undecided " ++ (decimal h ++ (codes " supported " ++ (decimal supported ++ (codes " frozen " ++ decimal frozen))))
decision_words h decide.NotWedged = codes "not wedged"
decision_words h decide.Settled = settled_words h

-- the answer to a retirement of host h
abbrev pub retirement_words : ℕ → Retired → List ℕ
retirement_words h retire.Done = codes "retired " ++ decimal h
retirement_words h retire.NotWedged = codes "not wedged"
retirement_words h retire.Settled = settled_words h

-- the answer to an opening
abbrev pub opening_words : Opened → List ℕ
opening_words (opens.Done epoch) = codes "opened " ++ decimal epoch
opening_words opens.NotWedged = codes "not wedged"
opening_words opens.NoNext = codes "no next"
opening_words (opens.NotAll h) = codes "not all " ++ decimal h

-- what a note tells
abbrev pub note_words : NoteKind → List ℕ
note_words (note.Wedged epoch) = codes "wedged " ++ decimal epoch
note_words note.AlreadyWedged = codes "already wedged"
note_words (note.Decide h answer) = decision_words h answer
note_words (note.Retire h answer) = retirement_words h answer
note_words (note.Open answer) = opening_words answer
note_words (note.QueueFull h) = codes "queue full " ++ decimal h

-- the line of a note
unfoldable pub note_line : Note → List ℕ
note_line n = codes "event " ++ (decimal n.event ++ (codes " " ++ (note_words n.kind ++ codes "\n")))

-- the lines of notes, in order
abbrev pub notes_text : List Note → List ℕ
notes_text notes = flat_map note_line notes

-- whether a node guards a host in its epoch, as a word
abbrev pub live_word : Bool → List ℕ
live_word live = if live then codes " live" else codes " closed"

-- which replica it is: its guard and its host, whether it is guarded still, how many entries it has
unfoldable pub place_words : (g h : ℕ) → (live : Bool) → (len : ℕ) → List ℕ
place_words g h live len =
    codes "guard " ++ (decimal g ++ (codes " of " ++ (decimal h ++ (live_word live ++ (codes " at " ++ decimal len)))))

-- the line of a replica, with the numbers of a state and outputs
unfoldable pub guard_line : (g h : ℕ) → (live : Bool) → (len : ℕ) → List ℤ → List (List ℤ) → List ℕ
guard_line g h live len numbers outs =
    place_words g h live len
    ++ (codes " state " ++ (state_text numbers ++ (codes " out " ++ (outs_text outs ++ codes "\n"))))

-- the steps of a run, then every host after it
abbrev pub run_and_hosts : {S : Type 0} → Rules S → List Step → List ℕ
run_and_hosts rules run =
    codes "run\n" ++ (steps_text run ++ (codes "hosts\n" ++ hosts_text rules (after_run rules run) 0 rules.hosts))

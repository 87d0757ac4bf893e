-- The lines of what is refused.
use Rattle.std.specs.Prelude.{ℕ, ◌++◌, List, codes, decimal}
use Rattle.nys_answer.specs.declared.answer.Answer.{Answer}
use Rattle.nys_answer.specs.declared.status.Status.TheVariants.{NotARun, Schedule, NoPacket, NoMemory}
use Rattle.nys_answer.specs.declared.limit.Limit.TheVariants.{Events, Packets}
use Rattle.nys_answer.specs.Lines.{line_answer, too_large}
use Rattle.nys_source.specs.declared.step.NotAStep.{NotAStep}
use Rattle.nys_source.specs.declared.step.NotAStep.TheVariants as step
use Rattle.nys_bare.specs.declared.read.TheConstants.{MAX_EVENTS}
use Rattle.nys_bare.specs.declared.fault.LineKind.{LineKind}
use Rattle.nys_bare.specs.declared.fault.LineKind.TheVariants.{Grammar, Host, Liar}
use Rattle.nys_bare.specs.declared.fault.ScheduleFault.{ScheduleFault}
use Rattle.nys_bare.specs.declared.fault.ScheduleFault.TheVariants as schedule
use Rattle.nys_source_commands.specs.declared.bare_run.TheConstants.{MAX_MESSAGES}
use Rattle.nys_source_commands.specs.declared.bare_run.BareEnd.{BareEnd}
use Rattle.nys_source_commands.specs.declared.bare_run.BareEnd.TheVariants as end

-- how a line is at fault, as a word
abbrev pub kind_word : LineKind → List ℕ
kind_word Grammar = codes "grammar"
kind_word Host = codes "host"
kind_word Liar = codes "liar"

-- a line of a schedule or a run text is at fault
abbrev pub line_refused : ℕ → LineKind → Answer
line_refused line kind =
    line_answer Schedule (codes "schedule: line " ++ (decimal line ++ (codes ": " ++ kind_word kind)))

-- there was no memory
abbrev pub no_memory : Answer
no_memory = line_answer NoMemory (codes "no memory")

-- a schedule is refused
abbrev pub schedule_refused : ScheduleFault → Answer
schedule_refused (schedule.Line line kind) = line_refused line kind
schedule_refused schedule.TooMany = too_large Events MAX_EVENTS
schedule_refused schedule.NoMemory = no_memory

-- an event names a packet or a message that wasn't sent by then
abbrev pub no_packet : (event packet have : ℕ) → Answer
no_packet event packet have =
    line_answer NoPacket (codes "no packet: event " ++ (decimal event ++ (codes ": " ++ (decimal packet ++ (codes " of " ++ decimal have)))))

-- a bare run ends before its last event
abbrev pub run_refused : BareEnd → Answer
run_refused (end.NoMessage event message have) = no_packet event message have
run_refused end.TooMany = too_large Packets MAX_MESSAGES
run_refused end.NoMemory = no_memory

-- why something is no step
abbrev pub step_words : NotAStep → List ℕ
step_words (step.NoHost h) = codes "no host " ++ decimal h
step_words (step.Stopped h) = codes "stopped " ++ decimal h
step_words (step.NotNeighbour p h) = codes "not neighbours " ++ (decimal p ++ (codes " " ++ decimal h))
step_words (step.NothingSent p h k) =
    codes "nothing sent " ++ (decimal p ++ (codes " " ++ (decimal h ++ (codes " " ++ decimal k))))
step_words step.NoMemory = codes "no memory"

-- the step of this number is none
abbrev pub step_refused : ℕ → NotAStep → Answer
step_refused at why = line_answer NotARun (codes "not a run: step " ++ (decimal at ++ (codes ": " ++ step_words why)))

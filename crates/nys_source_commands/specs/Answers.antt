-- What `bare` and `verify` answer, by the rules of the protocol and the text that they read.
use Rattle.std.specs.Prelude.{ℕ, ◌+◌, ◌++◌, List, [], ◌∷◌, length, codes, decimal, Option, Some, None, Result, Ok, Err}
use Rattle.nys_answer.specs.declared.answer.Answer.{Answer}
use Rattle.nys_answer.specs.declared.status.Status.TheVariants.{Done}
use Rattle.nys_answer.specs.declared.limit.Limit.TheVariants.{Events}
use Rattle.nys_answer.specs.Lines.{too_large}
use Rattle.nys_source.specs.Rules.{Rules}
use Rattle.nys_source.specs.Source.{Source, fresh}
use Rattle.nys_source.specs.Steps.{after_step, refusal}
use Rattle.nys_source.specs.declared.step.Step.{Step}
use Rattle.nys_source.specs.declared.step.NotAStep.{NotAStep}
use Rattle.nys_bare.specs.declared.event.BareEvent.{BareEvent}
use Rattle.nys_bare.specs.declared.fault.LineKind.TheVariants.{Grammar}
use Rattle.nys_bare.specs.declared.fault.ScheduleFault.{ScheduleFault}
use Rattle.nys_bare.specs.Schedule.{bare_schedule}
use Rattle.nys_runs.specs.declared.fault.RunFault.{RunFault}
use Rattle.nys_runs.specs.declared.fault.RunFault.TheVariants as fault
use Rattle.nys_runs.specs.declared.read.TheConstants.{MAX_STEPS}
use Rattle.nys_runs.specs.StepLines.{run_of}
use Rattle.nys_source_commands.specs.declared.bare_run.BareEnd.{BareEnd}
use Rattle.nys_source_commands.specs.BareRun.{bare_run}
use Rattle.nys_source_commands.specs.BareText.{bare_text}
use Rattle.nys_source_commands.specs.Refusals.{line_refused, no_memory, run_refused, schedule_refused, step_refused}

-- the text of a run, or what ends it
abbrev pub run_answer : {S : Type 0} → Rules S → Result (List Step) BareEnd → Answer
run_answer rules (Ok run) = record { status = Done; text = bare_text rules run }
run_answer rules (Err why) = run_refused why

-- the answer to the events of a schedule
abbrev pub events_answer : {S : Type 0} → Rules S → Result (List BareEvent) ScheduleFault → Answer
events_answer rules (Ok events) = run_answer rules (bare_run rules events)
events_answer rules (Err fault) = schedule_refused fault

-- what `bare` answers
abbrev pub bare_answer : {S : Type 0} → Rules S → List ℕ → Answer
bare_answer rules schedule = events_answer rules (bare_schedule rules.hosts schedule)

-- the number of the first step that is none, and why, where there is one
abbrev pub or_later : Option NotAStep → ℕ → Option (ℕ × NotAStep) → Option (ℕ × NotAStep)
or_later None at later = later
or_later (Some why) at later = Some (at, why)

-- the same for steps from a system and a number on
abbrev pub first_refused : {S : Type 0} → Rules S → ℕ → Source S → List Step → Option (ℕ × NotAStep)
first_refused rules at before [] = None
first_refused rules at before (step ∷ steps) =
    or_later (refusal rules before step) at (first_refused rules (at + 1) (after_step rules before step) steps)

-- whether so many steps are a run
abbrev pub verdict : ℕ → Option (ℕ × NotAStep) → Answer
verdict count None = record { status = Done; text = codes "a run of " ++ (decimal count ++ codes " steps\n") }
verdict count (Some refused) = step_refused refused.0 refused.1

-- the answer to the steps of a run text
abbrev pub steps_answer : {S : Type 0} → Rules S → Result (List Step) RunFault → Answer
steps_answer rules (Ok steps) = verdict (length steps) (first_refused rules 0 (fresh rules) steps)
steps_answer rules (Err (fault.Grammar line)) = line_refused line Grammar
steps_answer rules (Err fault.TooMany) = too_large Events MAX_STEPS
steps_answer rules (Err fault.NoMemory) = no_memory

-- what `verify` answers
abbrev pub verify_answer : {S : Type 0} → Rules S → List ℕ → Answer
verify_answer rules text = steps_answer rules (run_of text)

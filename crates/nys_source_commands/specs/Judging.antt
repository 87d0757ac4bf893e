-- What `verify` finds, in words of runs.
use Rattle.std.specs.Prelude.{◌≡◌, ℕ, ◌+◌, ◌≤◌, ◌↔◌, List, take, length, slice_get, All, FitsSigned, Some, None, Ok}
use Rattle.std.specs.Int.{w64}
use Rattle.nys_hosts.specs.declared.limits.TheConstants.{MAX_HOSTS}
use Rattle.nys_answer.specs.declared.answer.Answer.{Answer}
use Rattle.nys_answer.specs.declared.status.Status.TheVariants.{Done, NotARun}
use Rattle.nys_bytes.specs.declared.payload.TheConstants.{MAX_NUMBERS}
use Rattle.nys_source.specs.Rules.{Rules}
use Rattle.nys_source.specs.Source.{fresh}
use Rattle.nys_source.specs.Steps.{refusal}
use Rattle.nys_source.specs.Runs.{IsRun, after_run}
use Rattle.nys_source.specs.RunText.{steps_text}
use Rattle.nys_source.specs.declared.step.Step.{Step}
use Rattle.nys_source.specs.declared.step.Step.TheVariants.{Input, Receive, Stop}
use Rattle.nys_source.specs.declared.step.NotAStep.{NotAStep}
use Rattle.nys_runs.specs.StepLines.{run_of}
use Rattle.nys_runs.specs.declared.read.TheConstants.{MAX_STEPS}
use Rattle.nys_source_commands.specs.Answers.{first_refused, verdict, verify_answer}
use Rattle.nys_source_commands.specs.Refusals.{step_refused}

-- the step of this number, counted from 0, is the first of the list that is none where it stands, and why
pub record IsFirstNone {S : Type 0} (rules : Rules S) (steps : List Step) (at : ℕ) (why : NotAStep) : Type 0 where
  pub step : Step
  pub here : slice_get steps at ≡ Some step
  -- those before it are a run
  pub before : IsRun rules (take at steps)
  -- behind them it is refused, and so
  pub refused : refusal rules (after_run rules (take at steps)) step ≡ Some why
  -- with it they are none
  pub ends : IsRun rules (take (at + 1) steps) → ⊥

-- no step of a list is refused exactly where the list is a run
abbrev pub JudgesRuns : {S : Type 0} → Rules S → Type 0
JudgesRuns rules = (steps : List Step) → (first_refused rules 0 (fresh rules) steps ≡ None) ↔ IsRun rules steps

-- a step is the first that is refused exactly where it is the first that is none where it stands
abbrev pub NamesFirst : {S : Type 0} → Rules S → Type 0
NamesFirst rules = (steps : List Step) (at : ℕ) (why : NotAStep)
    → (first_refused rules 0 (fresh rules) steps ≡ Some (at, why)) ↔ IsFirstNone rules steps at why

-- the text says the steps of a run, and the answer how many
pub record TellsARun {S : Type 0} (rules : Rules S) (text : List ℕ) (answer : Answer) : Type 0 where
  pub steps : List Step
  pub said : run_of text ≡ Ok steps
  pub is_run : IsRun rules steps
  pub given : answer ≡ verdict (length steps) None

-- the text says steps, and the answer which of them is the first that is none where it stands, and why
pub record TellsTheFirst {S : Type 0} (rules : Rules S) (text : List ℕ) (answer : Answer) : Type 0 where
  pub steps : List Step
  pub said : run_of text ≡ Ok steps
  pub at : ℕ
  pub why : NotAStep
  pub first : IsFirstNone rules steps at why
  pub given : answer ≡ step_refused at why

-- what the status of an answer to a run text tells of its steps
pub record IsJudged {S : Type 0} (rules : Rules S) (text : List ℕ) (answer : Answer) : Type 0 where
  pub run : answer.status ≡ Done → TellsARun rules text answer
  pub none : answer.status ≡ NotARun → TellsTheFirst rules text answer

-- the payload of an input is one: one to MAX_NUMBERS numbers of 64 bits
abbrev pub HasPayload : Step → Type 0
HasPayload (Input h payload) =
    (1 ≤ length payload) × (length payload ≤ MAX_NUMBERS) × All (λ z. FitsSigned w64 z) payload
HasPayload (Receive h p k) = Unit {0}
HasPayload (Stop h) = Unit {0}

-- a run that can be printed and read: its protocol has at most as many hosts as a graph may have, it has at
-- most as many steps as a run text may have, and its inputs have payloads
pub record IsPrintable {S : Type 0} (rules : Rules S) (run : List Step) : Type 0 where
  pub is_run : IsRun rules run
  pub hosts : rules.hosts ≤ MAX_HOSTS
  pub few : length run ≤ MAX_STEPS
  pub payloads : All HasPayload run

-- the printed text of a run is read as that run
abbrev pub ReadsBack : {S : Type 0} → Rules S → Type 0
ReadsBack rules = (run : List Step) → IsPrintable rules run → run_of (steps_text run) ≡ Ok run

-- the answer of `verify` to the printed text of a run is that it is a run, and of how many steps
abbrev pub VerifiesPrinted : {S : Type 0} → Rules S → Type 0
VerifiesPrinted rules = (run : List Step) → IsPrintable rules run
    → verify_answer rules (steps_text run) ≡ verdict (length run) None

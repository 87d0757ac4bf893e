-- What a call of the program comes to: what it answers, and what it does to the source and the sink.
use Rattle.std.specs.Prelude.{◌≡◌, ℕ, ◌≤◌, ◌⊎◌, List, length, Option, Result, Ok, Err}
use Rattle.nys_answer.specs.declared.answer.Answer.{Answer}
use Rattle.nys_answer.specs.declared.limit.Limit.TheVariants as limit
use Rattle.nys_answer.specs.declared.limit.TheConstants.{INPUT_LIMIT}
use Rattle.nys_answer.specs.Codes.{code_of}
use Rattle.nys_answer.specs.Lines.{too_large}
use Rattle.nys_words.specs.Words.{answer_to}
use Rattle.nys_words.specs.declared.command.Command.{Command}
use Rattle.nys_words.specs.declared.request.Request.{Request}
use Rattle.nys_words.specs.declared.request.Request.TheVariants as ask
use Rattle.nys_workload_command.specs.Answered.{IsWorkloadAnswer}
use Rattle.nys_outside.specs.Input.{Input, Exceeds, TookAll}
use Rattle.nys_outside.specs.Output.{AppendsFront}
use Rattle.std.specs.Io.KnownBytes.{Appends}
use Rattle.nys_top.specs.Refusals.{no_memory, read_fault, words_refused}
use Rattle.nys_top.specs.Commands.{IsCommandAnswer}

-- the answer is that of a command to some input within the limit: where the source tells, to all the
-- bytes that it held, of which none are left
pub record AnswersInput (command : Command) (before after : Option Input) (answer : Answer) : Type 0 where
  pub input : List ℕ
  pub few : length input ≤ INPUT_LIMIT
  pub whole : TookAll before after input
  pub given : IsCommandAnswer command input answer

-- the source held more bytes than the limit, which is the answer
pub record IsTooLong (before : Option Input) (answer : Answer) : Type 0 where
  pub long : Exceeds INPUT_LIMIT before
  pub given : answer ≡ too_large limit.Input INPUT_LIMIT

-- what is answered to a request, or to words whose first wrong one is at a place; `workload` looks at no input
abbrev pub IsAnswerBy : Result Request ℕ → Option Input → Option Input → Answer → Type 0
IsAnswerBy (Ok (ask.Document command)) before after answer = AnswersInput command before after answer ⊎ IsTooLong before answer
IsAnswerBy (Ok (ask.Workload drawing)) before after answer = IsWorkloadAnswer drawing answer
IsAnswerBy (Err place) before after answer = answer ≡ words_refused place

-- words that are refused, or ask for a workload, are answered with no read
abbrev pub ReadsNothing : Result Request ℕ → Type 0
ReadsNothing (Ok (ask.Document command)) = ⊥
ReadsNothing (Ok (ask.Workload drawing)) = Unit {0}
ReadsNothing (Err place) = Unit {0}

-- what is answered to the words
abbrev pub IsAnswer : List (List ℕ) → Option Input → Option Input → Answer → Type 0
IsAnswer words before after answer = IsAnswerBy (answer_to words) before after answer

-- the call ends with the status of the answer to its words and input, whose whole text was written
pub record IsAnswered (words : List (List ℕ)) (before after : Option Input) (old new : Option (List ℕ)) (status : ℕ) : Type 0 where
  pub answer : Answer
  pub given : IsAnswer words before after answer
  pub status_is : status ≡ code_of answer.status
  pub text_is : Appends old new answer.text

-- a text that the call may have been writing: that of the answer, or the line of a fault
abbrev pub IsText : List (List ℕ) → Option Input → Option Input → List ℕ → Type 0
IsText words before after text =
    ((answer : Answer) × IsAnswer words before after answer × (text ≡ answer.text))
    ⊎ ((text ≡ read_fault) ⊎ (text ≡ no_memory))

-- a prefix of such a text was written
pub record IsBegun (words : List (List ℕ)) (before after : Option Input) (old new : Option (List ℕ)) : Type 0 where
  pub text : List ℕ
  pub given : IsText words before after text
  pub front : AppendsFront old new text

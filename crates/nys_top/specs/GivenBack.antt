-- The run that `replay` prints, given back to `verify`.
use Rattle.std.specs.Prelude.{◌≡◌, ℕ, ◌++◌, List, codes, length, None, Ok}
use Rattle.nys_answer.specs.declared.answer.Answer.{Answer}
use Rattle.nys_answer.specs.declared.status.Status.TheVariants.{Done}
use Rattle.nys_scenario.specs.Document.{answer_to, Said}
use Rattle.nys_source.specs.RunText.{steps_text}
use Rattle.nys_source.specs.declared.step.Step.{Step}
use Rattle.nys_source_commands.specs.Answers.{verdict}
use Rattle.nys_words.specs.declared.command.Command.TheVariants.{Replay, Verify}
use Rattle.nys_top.specs.Commands.{IsCommandAnswer, needs_of}

-- `verify` answers to each document that says this system, and these lines as its run, that they are a run,
-- and of how many steps
abbrev pub IsVerifiedAgain : Said → List Step → Type 0
IsVerifiedAgain said steps = (document : List ℕ) (other : Said) (answer : Answer)
    → answer_to (needs_of Verify) document ≡ Ok other
    → other.system ≡ said.system → other.texts.run ≡ steps_text steps → IsCommandAnswer Verify document answer
    → answer ≡ verdict (length steps) None

-- the text begins with the lines of a run, and given back they are verified
pub record BeginsWithARun (said : Said) (text : List ℕ) : Type 0 where
  pub steps : List Step
  pub rest : List ℕ
  pub text_is : text ≡ codes "run\n" ++ (steps_text steps ++ (codes "hosts\n" ++ rest))
  pub again : IsVerifiedAgain said steps

-- so it is of each text that `replay` answers with status 0
abbrev pub IsGivenBack : List ℕ → Type 0
IsGivenBack input = (said : Said) (answer : Answer) → answer_to (needs_of Replay) input ≡ Ok said
    → IsCommandAnswer Replay input answer → answer.status ≡ Done → BeginsWithARun said answer.text

-- That a call has at most one answer.
use Rattle.std.specs.Prelude.{◌≡◌, ℕ, List, Option, Some}
use Rattle.nys_answer.specs.declared.answer.Answer.{Answer}
use Rattle.nys_outside.specs.Input.{Input}
use Rattle.nys_top.specs.Outcomes.{IsAnswer}

-- two answers to the same words, from a source that told the same, are one
abbrev pub AnswersOnce : List (List ℕ) → Input → Option Input → Type 0
AnswersOnce words before after = (x y : Answer) → IsAnswer words (Some before) after x
    → IsAnswer words (Some before) after y → x ≡ y

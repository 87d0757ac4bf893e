-- What a call over memory comes to: the answer of the program, and where its text stands.
use Rattle.std.specs.Prelude.{◌≡◌, ℕ, ◌≤◌, List, [], length, take, Option, Some}
use Rattle.nys_outside.specs.Input.{Input, fresh}
use Rattle.nys_top.specs.Outcomes.{IsAnswered}

-- status and text are those of the answer to the words and to all the bytes of the document
pub record IsTold (words : List (List ℕ)) (document text : List ℕ) (status : ℕ) : Type 0 where
  pub after : Option Input
  pub answered : IsAnswered words (Some (fresh document)) after (Some []) (Some text) status

-- of such a text the length is shown, and it stands at the front of the room where it fits
pub record IsShown (words : List (List ℕ)) (document room : List ℕ) (size status : ℕ) : Type 0 where
  pub text : List ℕ
  pub told : IsTold words document text status
  pub size_is : size ≡ length text
  pub text_is : size ≤ length room → take size room ≡ text

-- What the status of `verify` tells of the run text of a document.
use Rattle.std.specs.Prelude.{◌≡◌, ℕ, Bool, List, Option, Ok}
use Rattle.std.specs.Io.KnownBytes.{Appends}
use Rattle.nys_answer.specs.declared.answer.Answer.{Answer}
use Rattle.nys_answer.specs.Codes.{code_of}
use Rattle.nys_words.specs.declared.command.Command.TheVariants.{Verify}
use Rattle.nys_meaning.specs.Machines.{machine_rules}
use Rattle.nys_native.specs.Sums.{sum_rules}
use Rattle.nys_native.specs.Floods.{flood_rules}
use Rattle.nys_route.specs.Routes.{route_rules}
use Rattle.nys_route.specs.Trees.{tree_rules}
use Rattle.nys_outside.specs.Input.{Input, TookAll}
use Rattle.nys_scenario.specs.Document.{Said, answer_to}
use Rattle.nys_scenario.specs.Protocol.{Protocol}
use Rattle.nys_scenario.specs.Protocol.Protocol.{Sum, Flood, Route, Tree, Machine}
use Rattle.nys_source_commands.specs.Judging.{IsJudged}
use Rattle.nys_top.specs.Commands.{needs_of}

-- what an answer tells of a run text, where the hosts run this protocol
abbrev pub IsJudgedBy : Protocol → ℕ → (ℕ → ℕ → Bool) → List ℕ → Answer → Type 0
IsJudgedBy Sum hosts linked text answer = IsJudged (sum_rules hosts linked) text answer
IsJudgedBy Flood hosts linked text answer = IsJudged (flood_rules hosts linked) text answer
IsJudgedBy Route hosts linked text answer = IsJudged (route_rules hosts linked) text answer
IsJudgedBy (Tree root) hosts linked text answer = IsJudged (tree_rules hosts linked root) text answer
IsJudgedBy (Machine tree) hosts linked text answer = IsJudged (machine_rules tree hosts linked) text answer

-- the whole input is a document, and the answer that was written tells of its run text whether it says the
-- steps of a run of the document's system
pub record IsVerified (before after : Option Input) (old new : Option (List ℕ)) (status : ℕ) : Type 0 where
  pub input : List ℕ
  pub whole : TookAll before after input
  pub said : Said
  pub says : answer_to (needs_of Verify) input ≡ Ok said
  pub answer : Answer
  pub judged : IsJudgedBy said.system.protocol said.system.hosts said.system.linked said.texts.run answer
  pub status_is : status ≡ code_of answer.status
  pub text_is : Appends old new answer.text

-- What the text of `trace` ends with: the report that `replay` answers to the same input.
use Rattle.std.specs.Prelude.{◌≡◌, ℕ, ◌++◌, List, Option, Ok}
use Rattle.std.specs.Io.KnownBytes.{Appends}
use Rattle.nys_answer.specs.declared.status.Status.TheVariants.{Done}
use Rattle.nys_outside.specs.Input.{Input, TookAll}
use Rattle.nys_scenario.specs.Document.{answer_to, Said}
use Rattle.nys_words.specs.declared.command.Command.TheVariants.{Replay, Trace}
use Rattle.nys_top.specs.Commands.{IsCommandAnswer, needs_of}
use Rattle.nys_top.specs.Printed.{TellsRunOf}

-- the whole input is a document, and the text that was written is packets and what became of them, then a
-- report: it is what `replay` answers to that input, and tells a run of the document's graph and protocol
pub record IsTraced (before after : Option Input) (old new : Option (List ℕ)) : Type 0 where
  pub input : List ℕ
  pub whole : TookAll before after input
  pub said : Said
  pub says : answer_to (needs_of Trace) input ≡ Ok said
  pub packets : List ℕ
  pub report : List ℕ
  pub replayed : IsCommandAnswer Replay input (record { status = Done; text = report })
  pub tells : TellsRunOf said.system.protocol said.system.hosts said.system.linked report
  pub text_is : Appends old new (packets ++ report)

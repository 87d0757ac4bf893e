-- What the text of `replay` tells with status 0, of the source system alone.
use Rattle.std.specs.Prelude.{◌≡◌, ℕ, Bool, List, Option, Ok}
use Rattle.std.specs.Io.KnownBytes.{Appends}
use Rattle.nys_words.specs.declared.command.Command.TheVariants.{Replay}
use Rattle.nys_meaning.specs.Machines.{machine_rules}
use Rattle.nys_native.specs.Sums.{sum_rules}
use Rattle.nys_native.specs.Floods.{flood_rules}
use Rattle.nys_outside.specs.Input.{Input, TookAll}
use Rattle.nys_printed.specs.Told.{TellsRun}
use Rattle.nys_route.specs.Routes.{route_rules}
use Rattle.nys_route.specs.Trees.{tree_rules}
use Rattle.nys_scenario.specs.Document.{Said, answer_to}
use Rattle.nys_scenario.specs.Protocol.{Protocol}
use Rattle.nys_scenario.specs.Protocol.Protocol.{Sum, Flood, Route, Tree, Machine}
use Rattle.nys_top.specs.Commands.{needs_of}

-- the text tells a run of the source system of a graph, where the hosts run this protocol
abbrev pub TellsRunOf : Protocol → ℕ → (ℕ → ℕ → Bool) → List ℕ → Type 0
TellsRunOf Sum hosts linked text = TellsRun (sum_rules hosts linked) text
TellsRunOf Flood hosts linked text = TellsRun (flood_rules hosts linked) text
TellsRunOf Route hosts linked text = TellsRun (route_rules hosts linked) text
TellsRunOf (Tree root) hosts linked text = TellsRun (tree_rules hosts linked root) text
TellsRunOf (Machine tree) hosts linked text = TellsRun (machine_rules tree hosts linked) text

-- the whole input is a document, and the text that was written tells a run of its graph and protocol
pub record IsPrinted (before after : Option Input) (old new : Option (List ℕ)) : Type 0 where
  pub input : List ℕ
  pub whole : TookAll before after input
  pub said : Said
  pub says : answer_to (needs_of Replay) input ≡ Ok said
  pub text : List ℕ
  pub tells : TellsRunOf said.system.protocol said.system.hosts said.system.linked text
  pub text_is : Appends old new text

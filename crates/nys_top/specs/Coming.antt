-- What must come in the worlds of a document, whatever the input.
use Rattle.std.specs.Prelude.{ℕ, List, Result, Ok, Err}
use Rattle.nys_meaning.specs.Machines.{machine_rules}
use Rattle.nys_native.specs.Floods.{flood_rules}
use Rattle.nys_native.specs.Sums.{sum_rules}
use Rattle.nys_route.specs.Routes.{route_rules}
use Rattle.nys_route.specs.Trees.{tree_rules}
use Rattle.nys_scenario.specs.Document.{answer_to, Said}
use Rattle.nys_scenario.specs.Keys.{Refusal}
use Rattle.nys_scenario.specs.Protocol.{Protocol}
use Rattle.nys_scenario.specs.Protocol.Protocol.{Sum, Flood, Route, Tree, Machine}
use Rattle.nys_words.specs.declared.command.Command.TheVariants.{Replay}
use Rattle.nys_world_commands.specs.Coming.{IsReplayComing}
use Rattle.nys_top.specs.Commands.{needs_of}

-- it comes where the hosts run this protocol
abbrev pub IsComingOf : Protocol → Said → Type 0
IsComingOf Sum said = IsReplayComing (sum_rules said.system.hosts said.system.linked) said
IsComingOf Flood said = IsReplayComing (flood_rules said.system.hosts said.system.linked) said
IsComingOf Route said = IsReplayComing (route_rules said.system.hosts said.system.linked) said
IsComingOf (Tree root) said = IsReplayComing (tree_rules said.system.hosts said.system.linked root) said
IsComingOf (Machine tree) said = IsReplayComing (machine_rules tree said.system.hosts said.system.linked) said

-- in a document that says a scenario; of one that is refused nothing is said
abbrev pub IsComingDocument : Result Said Refusal → Type 0
IsComingDocument (Ok said) = IsComingOf said.system.protocol said
IsComingDocument (Err refusal) = Unit {0}

-- in an input, as the document that `replay` and `trace` read
abbrev pub IsComingInput : List ℕ → Type 0
IsComingInput input = IsComingDocument (answer_to (needs_of Replay) input)

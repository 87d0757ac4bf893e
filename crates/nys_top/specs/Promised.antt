-- What `replay` promises of every document, beside what it answers.
use Rattle.std.specs.Prelude.{ℕ, List, Result, Ok, Err}
use Rattle.nys_meaning.specs.Machines.{machine_rules}
use Rattle.nys_native.specs.Floods.{flood_rules}
use Rattle.nys_native.specs.Sums.{sum_rules}
use Rattle.nys_route.specs.Routes.{route_rules}
use Rattle.nys_route.specs.Trees.{tree_rules}
use Rattle.nys_scenario.specs.Document.{Said, answer_to}
use Rattle.nys_scenario.specs.Keys.{Refusal}
use Rattle.nys_scenario.specs.Protocol.{Protocol}
use Rattle.nys_scenario.specs.Protocol.Protocol.{Sum, Flood, Route, Tree, Machine}
use Rattle.nys_words.specs.declared.command.Command.TheVariants.{Replay}
use Rattle.nys_world_commands.specs.Promised.{IsReplayPromised}
use Rattle.nys_top.specs.Commands.{needs_of}

-- each world on the way of the schedule keeps what worlds promise, where the hosts run this protocol
abbrev pub IsPromisedOf : Protocol → Said → Type 0
IsPromisedOf Sum said = IsReplayPromised (sum_rules said.system.hosts said.system.linked) said
IsPromisedOf Flood said = IsReplayPromised (flood_rules said.system.hosts said.system.linked) said
IsPromisedOf Route said = IsReplayPromised (route_rules said.system.hosts said.system.linked) said
IsPromisedOf (Tree root) said = IsReplayPromised (tree_rules said.system.hosts said.system.linked root) said
IsPromisedOf (Machine tree) said =
    IsReplayPromised (machine_rules tree said.system.hosts said.system.linked) said

-- so it is of a document that says a scenario; of one that is refused nothing is promised
abbrev pub IsPromisedDocument : Result Said Refusal → Type 0
IsPromisedDocument (Ok said) = IsPromisedOf said.system.protocol said
IsPromisedDocument (Err refusal) = Unit {0}

-- so it is of an input, as the document that `replay` reads
abbrev pub IsPromisedInput : List ℕ → Type 0
IsPromisedInput input = IsPromisedDocument (answer_to (needs_of Replay) input)

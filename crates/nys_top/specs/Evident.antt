-- What the text of `trace` bears out: the run that it prints.
use Rattle.std.specs.Prelude.{◌≡◌, ℕ, List, Ok}
use Rattle.nys_answer.specs.declared.answer.Answer.{Answer}
use Rattle.nys_answer.specs.declared.status.Status.TheVariants.{Done}
use Rattle.nys_meaning.specs.Machines.{machine_rules}
use Rattle.nys_native.specs.Floods.{flood_rules}
use Rattle.nys_native.specs.Sums.{sum_rules}
use Rattle.nys_route.specs.Routes.{route_rules}
use Rattle.nys_route.specs.Trees.{tree_rules}
use Rattle.nys_scenario.specs.Document.{answer_to, Said}
use Rattle.nys_scenario.specs.Protocol.{Protocol}
use Rattle.nys_scenario.specs.Protocol.Protocol.{Sum, Flood, Route, Tree, Machine}
use Rattle.nys_words.specs.declared.command.Command.TheVariants.{Trace}
use Rattle.nys_world_commands.specs.Evident.{TracesDocument}
use Rattle.nys_top.specs.Commands.{IsCommandAnswer, needs_of}

-- the text is the trace of a world of the document, and each step of the world's run has its evidence in what the
-- text prints, where the hosts run this protocol
abbrev pub TracesOf : Protocol → Said → List ℕ → Type 0
TracesOf Sum said text = TracesDocument (sum_rules said.system.hosts said.system.linked) said text
TracesOf Flood said text = TracesDocument (flood_rules said.system.hosts said.system.linked) said text
TracesOf Route said text = TracesDocument (route_rules said.system.hosts said.system.linked) said text
TracesOf (Tree root) said text = TracesDocument (tree_rules said.system.hosts said.system.linked root) said text
TracesOf (Machine tree) said text = TracesDocument (machine_rules tree said.system.hosts said.system.linked) said text

-- so it is of each text that `trace` answers with status 0
abbrev pub IsEvidentInput : List ℕ → Type 0
IsEvidentInput input = (said : Said) (answer : Answer) → answer_to (needs_of Trace) input ≡ Ok said
    → IsCommandAnswer Trace input answer → answer.status ≡ Done → TracesOf said.system.protocol said answer.text

-- Whatever the input, each world on the way of its schedule keeps what worlds promise.
use Rattle.std.proofs.Common.{◌≡◌, ℕ, List, Result, Ok, Err, refl}
use Rattle.nys_meaning.specs.Machines.{machine_rules}
use Rattle.nys_native.specs.Floods.{flood_rules}
use Rattle.nys_native.specs.Sums.{sum_rules}
use Rattle.nys_route.specs.Routes.{route_rules}
use Rattle.nys_route.specs.Trees.{tree_rules}
use Rattle.nys_scenario.proofs.Bounded.{bounded}
use Rattle.nys_scenario.proofs.Counted.{few_hosts}
use Rattle.nys_scenario.specs.Document.{Said, answer_to}
use Rattle.nys_scenario.specs.Keys.{Refusal}
use Rattle.nys_scenario.specs.Protocol.{Protocol}
use Rattle.nys_scenario.specs.Protocol.Protocol.{Sum, Flood, Route, Tree, Machine}
use Rattle.nys_words.specs.declared.command.Command.TheVariants.{Replay}
use Rattle.nys_world_commands.proofs.ScenarioLemmas.{replay_promised}
use Rattle.nys_top.specs.Commands.{needs_of}
use Rattle.nys_top.specs.Promised.{IsPromisedDocument, IsPromisedInput, IsPromisedOf}

-- with each protocol
promised_of : (protocol : Protocol) (said : Said) (input : List ℕ) → answer_to (needs_of Replay) input ≡ Ok said → IsPromisedOf protocol said
promised_of Sum said input read =
    replay_promised (sum_rules said.system.hosts said.system.linked) (needs_of Replay) said refl (few_hosts (needs_of Replay) input said read) refl
    (bounded (needs_of Replay) input said read)
promised_of Flood said input read =
    replay_promised (flood_rules said.system.hosts said.system.linked) (needs_of Replay) said refl (few_hosts (needs_of Replay) input said read) refl
    (bounded (needs_of Replay) input said read)
promised_of Route said input read =
    replay_promised (route_rules said.system.hosts said.system.linked) (needs_of Replay) said refl (few_hosts (needs_of Replay) input said read) refl
    (bounded (needs_of Replay) input said read)
promised_of (Tree root) said input read =
    replay_promised (tree_rules said.system.hosts said.system.linked root) (needs_of Replay) said refl (few_hosts (needs_of Replay) input said read) refl
    (bounded (needs_of Replay) input said read)
promised_of (Machine tree) said input read =
    replay_promised (machine_rules tree said.system.hosts said.system.linked) (needs_of Replay) said refl
    (few_hosts (needs_of Replay) input said read) refl (bounded (needs_of Replay) input said read)

-- with the protocol of the document
pub input_promised : (input : List ℕ) → IsPromisedInput input
input_promised input = go (answer_to (needs_of Replay) input) refl
  where
    go : (document : Result Said Refusal) → answer_to (needs_of Replay) input ≡ document → IsPromisedDocument document
    go (Ok said) read = promised_of said.system.protocol said input read
    go (Err refusal) read = tt

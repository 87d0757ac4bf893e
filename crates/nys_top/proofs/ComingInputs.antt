-- Whatever the input, what must come in the worlds of its document.
use Rattle.std.proofs.Common.{◌≡◌, ℕ, List, Result, Ok, Err, refl}
use Rattle.nys_meaning.specs.Machines.{machine_rules}
use Rattle.nys_native.specs.Floods.{flood_rules}
use Rattle.nys_native.specs.Sums.{sum_rules}
use Rattle.nys_route.specs.Routes.{route_rules}
use Rattle.nys_route.specs.Trees.{tree_rules}
use Rattle.nys_scenario.proofs.Bounded.{bounded}
use Rattle.nys_scenario.proofs.Counted.{few_hosts}
use Rattle.nys_scenario.proofs.Shapes.{document_shape}
use Rattle.nys_scenario.specs.Document.{answer_to, Said}
use Rattle.nys_scenario.specs.Keys.{Refusal}
use Rattle.nys_scenario.specs.Protocol.{Protocol}
use Rattle.nys_scenario.specs.Protocol.Protocol.{Sum, Flood, Route, Tree, Machine}
use Rattle.nys_words.specs.declared.command.Command.TheVariants.{Replay}
use Rattle.nys_world_commands.proofs.ComingLemmas.{replay_coming}
use Rattle.nys_top.specs.Commands.{needs_of}
use Rattle.nys_top.specs.Coming.{IsComingDocument, IsComingInput, IsComingOf}

-- with each protocol
coming_of : (protocol : Protocol) (said : Said) (input : List ℕ) → answer_to (needs_of Replay) input ≡ Ok said → IsComingOf protocol said
coming_of Sum said input read =
    replay_coming (sum_rules said.system.hosts said.system.linked) (needs_of Replay) said refl refl
    (few_hosts (needs_of Replay) input said read) (document_shape (needs_of Replay) input said read) refl
    (bounded (needs_of Replay) input said read)
coming_of Flood said input read =
    replay_coming (flood_rules said.system.hosts said.system.linked) (needs_of Replay) said refl refl
    (few_hosts (needs_of Replay) input said read) (document_shape (needs_of Replay) input said read) refl
    (bounded (needs_of Replay) input said read)
coming_of Route said input read =
    replay_coming (route_rules said.system.hosts said.system.linked) (needs_of Replay) said refl refl
    (few_hosts (needs_of Replay) input said read) (document_shape (needs_of Replay) input said read) refl
    (bounded (needs_of Replay) input said read)
coming_of (Tree root) said input read =
    replay_coming (tree_rules said.system.hosts said.system.linked root) (needs_of Replay) said refl refl
    (few_hosts (needs_of Replay) input said read) (document_shape (needs_of Replay) input said read) refl
    (bounded (needs_of Replay) input said read)
coming_of (Machine tree) said input read =
    replay_coming (machine_rules tree said.system.hosts said.system.linked) (needs_of Replay) said refl refl
    (few_hosts (needs_of Replay) input said read) (document_shape (needs_of Replay) input said read) refl
    (bounded (needs_of Replay) input said read)

-- with the protocol of the document
document_coming : (input : List ℕ) (document : Result Said Refusal) → answer_to (needs_of Replay) input ≡ document
    → IsComingDocument document
document_coming input (Ok said) read = coming_of said.system.protocol said input read
document_coming input (Err refusal) read = tt

-- whatever the input
pub input_coming : (input : List ℕ) → IsComingInput input
input_coming input = document_coming input (answer_to (needs_of Replay) input) refl

-- Whatever the input, what `trace` answers with status 0 is the trace of a world whose run has its evidence in it.
use Rattle.std.proofs.Common.{◌≡◌, ℕ, List, Ok, refl, ap, subst}
use Rattle.nys_answer.specs.declared.answer.Answer.{Answer}
use Rattle.nys_answer.specs.Codes.{code_of}
use Rattle.nys_words.specs.declared.command.Command.TheVariants.{Trace}
use Rattle.nys_meaning.specs.Machines.{machine_rules}
use Rattle.nys_native.specs.Floods.{flood_rules}
use Rattle.nys_native.specs.Sums.{sum_rules}
use Rattle.nys_route.specs.Routes.{route_rules}
use Rattle.nys_route.specs.Trees.{tree_rules}
use Rattle.nys_scenario.proofs.Bounded.{bounded}
use Rattle.nys_scenario.proofs.Counted.{few_hosts}
use Rattle.nys_scenario.specs.Document.{answer_to, Said}
use Rattle.nys_scenario.specs.Protocol.{Protocol}
use Rattle.nys_scenario.specs.Protocol.Protocol.{Sum, Flood, Route, Tree, Machine}
use Rattle.nys_world_commands.proofs.EvidentLemmas.{trace_tells}
use Rattle.nys_world_commands.specs.declared.telling.Telling.TheVariants as tell
use Rattle.nys_top.specs.Commands.{IsDocumentAnswer, IsReplayOf, needs_of}
use Rattle.nys_top.specs.Evident.{IsEvidentInput, TracesOf}

-- with each protocol
traces_of : (protocol : Protocol) (said : Said) (input : List ℕ) (answer : Answer) → answer_to (needs_of Trace) input ≡ Ok said
    → IsReplayOf tell.Trace protocol said answer → code_of answer.status ≡ 0 → TracesOf protocol said answer.text
traces_of Sum said input answer read given done =
    trace_tells (sum_rules said.system.hosts said.system.linked) (needs_of Trace) said answer refl
    (few_hosts (needs_of Trace) input said read) refl (bounded (needs_of Trace) input said read) given done
traces_of Flood said input answer read given done =
    trace_tells (flood_rules said.system.hosts said.system.linked) (needs_of Trace) said answer refl
    (few_hosts (needs_of Trace) input said read) refl (bounded (needs_of Trace) input said read) given done
traces_of Route said input answer read given done =
    trace_tells (route_rules said.system.hosts said.system.linked) (needs_of Trace) said answer refl
    (few_hosts (needs_of Trace) input said read) refl (bounded (needs_of Trace) input said read) given done
traces_of (Tree root) said input answer read given done =
    trace_tells (tree_rules said.system.hosts said.system.linked root) (needs_of Trace) said answer refl
    (few_hosts (needs_of Trace) input said read) refl (bounded (needs_of Trace) input said read) given done
traces_of (Machine tree) said input answer read given done =
    trace_tells (machine_rules tree said.system.hosts said.system.linked) (needs_of Trace) said answer refl
    (few_hosts (needs_of Trace) input said read) refl (bounded (needs_of Trace) input said read) given done

-- with the protocol of the document
pub input_evident : (input : List ℕ) → IsEvidentInput input
input_evident input said answer read given done =
    traces_of said.system.protocol said input answer read
    (subst (λ document. IsDocumentAnswer Trace document answer) read given) (ap code_of done)

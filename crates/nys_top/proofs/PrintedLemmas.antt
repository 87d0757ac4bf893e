-- With status 0 the text of `replay` tells a run of the source system of its document.
use Rattle.std.proofs.Common.{◌≡◌, ℕ, ◌⊎◌, inl, inr, List, Option, Result, Ok, Err, refl, ap, subst, sym, ◌∙◌, arith}
use Rattle.std.specs.Io.KnownBytes.{Appends}
use Rattle.nys_answer.specs.declared.answer.Answer.{Answer}
use Rattle.nys_answer.specs.Codes.{code_of}
use Rattle.nys_words.specs.declared.request.Request.TheVariants as ask
use Rattle.nys_words.specs.declared.command.Command.TheVariants.{Replay}
use Rattle.nys_words.specs.Words as spoken
use Rattle.nys_lex.specs.declared.fault.MachineFault.TheVariants.{At, NoMemory}
use Rattle.nys_meaning.specs.Machines.{machine_rules}
use Rattle.nys_native.specs.Sums.{sum_rules}
use Rattle.nys_native.specs.Floods.{flood_rules}
use Rattle.nys_outside.specs.Input.{Input}
use Rattle.nys_route.specs.Routes.{route_rules}
use Rattle.nys_route.specs.Trees.{tree_rules}
use Rattle.nys_scenario.proofs.Bounded.{bounded}
use Rattle.nys_scenario.proofs.Counted.{few_hosts}
use Rattle.nys_scenario.specs.Document.{Said, answer_to}
use Rattle.nys_scenario.specs.Keys.{Refusal}
use Rattle.nys_scenario.specs.Keys.Refusal.{AtKey, AtMachine}
use Rattle.nys_scenario.specs.Protocol.{Protocol}
use Rattle.nys_scenario.specs.Protocol.Protocol.{Sum, Flood, Route, Tree, Machine}
use Rattle.nys_world_commands.proofs.PrintedLemmas.{replay_tells}
use Rattle.nys_world_commands.specs.declared.telling.Telling.TheVariants as tell
use Rattle.nys_top.specs.Commands.{IsDocumentAnswer, IsReplayOf, needs_of}
use Rattle.nys_top.specs.Outcomes.{AnswersInput, IsAnswerBy, IsAnswered, IsTooLong}
use Rattle.nys_top.specs.Printed.{IsPrinted, TellsRunOf}

-- what `replay` answers with each protocol
pub tells_of : (protocol : Protocol) (said : Said) (input : List ℕ) (answer : Answer) → answer_to (needs_of Replay) input ≡ Ok said
    → IsReplayOf tell.Report protocol said answer → code_of answer.status ≡ 0
    → TellsRunOf protocol said.system.hosts said.system.linked answer.text
tells_of Sum said input answer read given done =
    replay_tells (sum_rules said.system.hosts said.system.linked) (needs_of Replay) said answer refl
    (few_hosts (needs_of Replay) input said read) refl (bounded (needs_of Replay) input said read) given done
tells_of Flood said input answer read given done =
    replay_tells (flood_rules said.system.hosts said.system.linked) (needs_of Replay) said answer refl
    (few_hosts (needs_of Replay) input said read) refl (bounded (needs_of Replay) input said read) given done
tells_of Route said input answer read given done =
    replay_tells (route_rules said.system.hosts said.system.linked) (needs_of Replay) said answer refl
    (few_hosts (needs_of Replay) input said read) refl (bounded (needs_of Replay) input said read) given done
tells_of (Tree root) said input answer read given done =
    replay_tells (tree_rules said.system.hosts said.system.linked root) (needs_of Replay) said answer refl
    (few_hosts (needs_of Replay) input said read) refl (bounded (needs_of Replay) input said read) given done
tells_of (Machine tree) said input answer read given done =
    replay_tells (machine_rules tree said.system.hosts said.system.linked) (needs_of Replay) said answer refl
    (few_hosts (needs_of Replay) input said read) refl (bounded (needs_of Replay) input said read) given done

-- the answer is to a document
record IsOfDocument (input : List ℕ) (answer : Answer) : Type 0 where
  said : Said
  says : answer_to (needs_of Replay) input ≡ Ok said
  tells : TellsRunOf said.system.protocol said.system.hosts said.system.linked answer.text

-- a document that is refused gives another status
of_document : (input : List ℕ) (document : Result Said Refusal) (answer : Answer) → answer_to (needs_of Replay) input ≡ document
    → IsDocumentAnswer Replay document answer → code_of answer.status ≡ 0 → IsOfDocument input answer
of_document input (Ok said) answer read given done = record {
  said = said;
  says = read;
  tells = tells_of said.system.protocol said input answer read given done;
}
of_document input (Err (AtKey key wrong)) answer read given done =
    let status = ap (λ a. code_of a.status) given in absurd (omega (arith, done, status))
of_document input (Err (AtMachine (At line col kind))) answer read given done =
    let status = ap (λ a. code_of a.status) given in absurd (omega (arith, done, status))
of_document input (Err (AtMachine NoMemory)) answer read given done = absurd given

-- so does an input that is too long
printed_by : (before after : Option Input) (old new : Option (List ℕ)) (answer : Answer)
    → AnswersInput Replay before after answer ⊎ IsTooLong before answer → Appends old new answer.text
    → code_of answer.status ≡ 0 → IsPrinted before after old new
printed_by before after old new answer (inl answers) wrote done =
    let of = of_document answers.input (answer_to (needs_of Replay) answers.input) answer refl answers.given done in
    record {
      input = answers.input;
      whole = answers.whole;
      said = of.said;
      says = of.says;
      text = answer.text;
      tells = of.tells;
      text_is = wrote;
    }
printed_by before after old new answer (inr long) wrote done =
    let given = ap (λ a. code_of a.status) long.given in absurd (omega (arith, done, given))

-- a call of `replay` with status 0 has printed a run of its document
pub printed : (words : List (List ℕ)) (before after : Option Input) (old new : Option (List ℕ)) (status : ℕ)
    → IsAnswered words before after old new status → spoken.answer_to words ≡ Ok (ask.Document Replay) → status ≡ 0
    → IsPrinted before after old new
printed words before after old new status answered named done =
    printed_by before after old new answered.answer
    (subst (λ command. IsAnswerBy command before after answered.answer) named answered.given)
    answered.text_is (sym answered.status_is ∙ done)

-- With status 0 the text of `trace` ends with the report that `replay` answers to the same input.
use Rattle.std.proofs.Common.{◌≡◌, ℕ, ◌⊎◌, ◌++◌, inl, inr, List, Option, Result, Ok, Err, refl, ap, subst, sym, ◌∙◌, arith}
use Rattle.std.specs.Io.KnownBytes.{Appends}
use Rattle.nys_answer.specs.declared.answer.Answer.{Answer}
use Rattle.nys_answer.specs.declared.status.Status.TheVariants.{Done}
use Rattle.nys_answer.specs.Codes.{code_of}
use Rattle.nys_words.specs.declared.request.Request.TheVariants as ask
use Rattle.nys_words.specs.declared.command.Command.TheVariants.{Replay, Trace}
use Rattle.nys_words.specs.Words as spoken
use Rattle.nys_lex.specs.declared.fault.MachineFault.TheVariants.{At, NoMemory}
use Rattle.nys_meaning.specs.Machines.{machine_rules}
use Rattle.nys_native.specs.Sums.{sum_rules}
use Rattle.nys_native.specs.Floods.{flood_rules}
use Rattle.nys_outside.specs.Input.{Input}
use Rattle.nys_route.specs.Routes.{route_rules}
use Rattle.nys_route.specs.Trees.{tree_rules}
use Rattle.nys_scenario.specs.Document.{Said, answer_to}
use Rattle.nys_scenario.specs.Keys.{Refusal}
use Rattle.nys_scenario.specs.Keys.Refusal.{AtKey, AtMachine}
use Rattle.nys_scenario.specs.Protocol.{Protocol}
use Rattle.nys_scenario.specs.Protocol.Protocol.{Sum, Flood, Route, Tree, Machine}
use Rattle.nys_world_commands.proofs.TracedLemmas.{EndsWith, trace_ends_with}
use Rattle.nys_world_commands.specs.declared.telling.Telling.TheVariants as tell
use Rattle.nys_top.specs.Commands.{IsDocumentAnswer, IsReplayOf, needs_of}
use Rattle.nys_top.specs.Outcomes.{AnswersInput, IsAnswerBy, IsAnswered, IsTooLong}
use Rattle.nys_top.specs.Printed.{TellsRunOf}
use Rattle.nys_top.specs.Traced.{IsTraced}
use Rattle.nys_top.proofs.PrintedLemmas.{tells_of}

-- with each protocol
ends_of : (protocol : Protocol) (said : Said) (answer : Answer) → IsReplayOf tell.Trace protocol said answer
    → code_of answer.status ≡ 0 → EndsWith (IsReplayOf tell.Report protocol said) answer.text
ends_of Sum said answer given done = trace_ends_with (sum_rules said.system.hosts said.system.linked) said answer given done
ends_of Flood said answer given done = trace_ends_with (flood_rules said.system.hosts said.system.linked) said answer given done
ends_of Route said answer given done = trace_ends_with (route_rules said.system.hosts said.system.linked) said answer given done
ends_of (Tree root) said answer given done =
    trace_ends_with (tree_rules said.system.hosts said.system.linked root) said answer given done
ends_of (Machine tree) said answer given done =
    trace_ends_with (machine_rules tree said.system.hosts said.system.linked) said answer given done

-- the answer is to a document, and its text ends with what `replay` answers to it
record IsOfDocument (input : List ℕ) (answer : Answer) : Type 0 where
  said : Said
  says : answer_to (needs_of Trace) input ≡ Ok said
  ends : EndsWith (IsReplayOf tell.Report said.system.protocol said) answer.text

-- a document that is refused gives another status
of_document : (input : List ℕ) (document : Result Said Refusal) (answer : Answer) → answer_to (needs_of Trace) input ≡ document
    → IsDocumentAnswer Trace document answer → code_of answer.status ≡ 0 → IsOfDocument input answer
of_document input (Ok said) answer read given done = record {
  said = said;
  says = read;
  ends = ends_of said.system.protocol said answer given done;
}
of_document input (Err (AtKey key wrong)) answer read given done =
    let status = ap (λ a. code_of a.status) given in absurd (omega (arith, done, status))
of_document input (Err (AtMachine (At line col kind))) answer read given done =
    let status = ap (λ a. code_of a.status) given in absurd (omega (arith, done, status))
of_document input (Err (AtMachine NoMemory)) answer read given done = absurd given

-- so does an input that is too long
traced_by : (before after : Option Input) (old new : Option (List ℕ)) (answer : Answer)
    → AnswersInput Trace before after answer ⊎ IsTooLong before answer → Appends old new answer.text
    → code_of answer.status ≡ 0 → IsTraced before after old new
traced_by before after old new answer (inl answers) wrote done =
    let of = of_document answers.input (answer_to (needs_of Trace) answers.input) answer refl answers.given done in
    record {
      input = answers.input;
      whole = answers.whole;
      said = of.said;
      says = of.says;
      packets = of.ends.packets;
      report = of.ends.report;
      replayed =
          subst (λ document. IsDocumentAnswer Replay document (record { status = Done; text = of.ends.report })) (sym of.says) of.ends.replayed;
      tells =
          tells_of of.said.system.protocol of.said answers.input (record { status = Done; text = of.ends.report }) of.says of.ends.replayed refl;
      text_is = subst (λ text. Appends old new text) of.ends.text_is wrote;
    }
traced_by before after old new answer (inr long) wrote done =
    let given = ap (λ a. code_of a.status) long.given in absurd (omega (arith, done, given))

-- a call of `trace` with status 0 has printed what ends with the report of `replay`
pub traced : (words : List (List ℕ)) (before after : Option Input) (old new : Option (List ℕ)) (status : ℕ)
    → IsAnswered words before after old new status → spoken.answer_to words ≡ Ok (ask.Document Trace) → status ≡ 0
    → IsTraced before after old new
traced words before after old new status answered named done =
    traced_by before after old new answered.answer
    (subst (λ command. IsAnswerBy command before after answered.answer) named answered.given)
    answered.text_is (sym answered.status_is ∙ done)

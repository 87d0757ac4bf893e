-- With status 0 or 1 the answer of `verify` is one to a run text.
use Rattle.std.proofs.Common.{◌≡◌, ℕ, ◌≤◌, ◌⊎◌, inl, inr, Bool, List, Option, Result, Ok, Err, refl, ap, subst, arith}
use Rattle.std.specs.Io.KnownBytes.{Appends}
use Rattle.nys_answer.specs.declared.answer.Answer.{Answer}
use Rattle.nys_answer.specs.Codes.{code_of}
use Rattle.nys_words.specs.declared.request.Request.TheVariants as ask
use Rattle.nys_words.specs.declared.command.Command.TheVariants.{Verify}
use Rattle.nys_words.specs.Words as spoken
use Rattle.nys_lex.specs.declared.fault.MachineFault.TheVariants.{At, NoMemory}
use Rattle.nys_meaning.specs.Machines.{machine_rules}
use Rattle.nys_native.specs.Sums.{sum_rules}
use Rattle.nys_native.specs.Floods.{flood_rules}
use Rattle.nys_route.specs.Routes.{route_rules}
use Rattle.nys_route.specs.Trees.{tree_rules}
use Rattle.nys_outside.specs.Input.{Input}
use Rattle.nys_scenario.specs.Document.{Said, answer_to}
use Rattle.nys_scenario.specs.Keys.{Refusal}
use Rattle.nys_scenario.specs.Keys.Refusal.{AtKey, AtMachine}
use Rattle.nys_scenario.specs.Protocol.{Protocol}
use Rattle.nys_scenario.specs.Protocol.Protocol.{Sum, Flood, Route, Tree, Machine}
use Rattle.nys_source_commands.proofs.JudgeLemmas.{is_judged}
use Rattle.nys_top.specs.Commands.{IsDocumentAnswer, needs_of, verify_of}
use Rattle.nys_top.specs.Outcomes.{AnswersInput, IsAnswerBy, IsAnswered, IsTooLong}
use Rattle.nys_top.specs.Verified.{IsJudgedBy, IsVerified}

-- what `verify` answers with each protocol tells of the steps
judged_by : (protocol : Protocol) (hosts : ℕ) (linked : ℕ → ℕ → Bool) (text : List ℕ) (answer : Answer)
    → answer ≡ verify_of protocol hosts linked text → IsJudgedBy protocol hosts linked text answer
judged_by Sum hosts linked text answer given = is_judged (sum_rules hosts linked) text answer given
judged_by Flood hosts linked text answer given = is_judged (flood_rules hosts linked) text answer given
judged_by Route hosts linked text answer given = is_judged (route_rules hosts linked) text answer given
judged_by (Tree root) hosts linked text answer given = is_judged (tree_rules hosts linked root) text answer given
judged_by (Machine tree) hosts linked text answer given = is_judged (machine_rules tree hosts linked) text answer given

-- the answer is to a document
record IsOfDocument (document : Result Said Refusal) (answer : Answer) : Type 0 where
  said : Said
  says : document ≡ Ok said
  judged : IsJudgedBy said.system.protocol said.system.hosts said.system.linked said.texts.run answer

-- a document that is refused gives another status
of_document : (document : Result Said Refusal) (answer : Answer) → IsDocumentAnswer Verify document answer
    → code_of answer.status ≤ 1 → IsOfDocument document answer
of_document (Ok said) answer given low = record {
  said = said;
  says = refl;
  judged = judged_by said.system.protocol said.system.hosts said.system.linked said.texts.run answer given;
}
of_document (Err (AtKey key wrong)) answer given low =
    let status = ap (λ a. code_of a.status) given in absurd (omega (arith, low, status))
of_document (Err (AtMachine (At line col kind))) answer given low =
    let status = ap (λ a. code_of a.status) given in absurd (omega (arith, low, status))
of_document (Err (AtMachine NoMemory)) answer given low = absurd given

-- so does an input that is too long
verified_by : (before after : Option Input) (old new : Option (List ℕ)) (status : ℕ) (answer : Answer)
    → AnswersInput Verify before after answer ⊎ IsTooLong before answer
    → status ≡ code_of answer.status → Appends old new answer.text → status ≤ 1
    → IsVerified before after old new status
verified_by before after old new status answer (inl answers) ends wrote low =
    let of = of_document (answer_to (needs_of Verify) answers.input) answer answers.given (omega (arith, ends, low)) in
    record {
      input = answers.input;
      whole = answers.whole;
      said = of.said;
      says = of.says;
      answer = answer;
      judged = of.judged;
      status_is = ends;
      text_is = wrote;
    }
verified_by before after old new status answer (inr long) ends wrote low =
    let given = ap (λ a. code_of a.status) long.given in absurd (omega (arith, ends, low, given))

-- a call of `verify` with status 0 or 1 has judged the run text of its document
pub verified : (words : List (List ℕ)) (before after : Option Input) (old new : Option (List ℕ)) (status : ℕ)
    → IsAnswered words before after old new status → spoken.answer_to words ≡ Ok (ask.Document Verify) → status ≤ 1
    → IsVerified before after old new status
verified words before after old new status answered named low =
    verified_by before after old new status answered.answer
    (subst (λ command. IsAnswerBy command before after answered.answer) named answered.given)
    answered.status_is answered.text_is low

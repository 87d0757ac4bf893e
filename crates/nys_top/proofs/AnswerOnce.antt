-- What is answered to words and an input is one thing, where the source tells.
use Rattle.std.proofs.Common.{◌≡◌, ℕ, ◌<◌, ◌≤◌, List, length, Option, Some, None, Result, Ok, Err, refl, sym, ap, subst, ◌∙◌, inl, inr, ◌⊎◌, arith}
use Rattle.nys_answer.specs.declared.answer.Answer.{Answer}
use Rattle.nys_answer.specs.declared.limit.TheConstants.{INPUT_LIMIT}
use Rattle.nys_lex.specs.declared.fault.MachineFault.TheVariants.{At, NoMemory}
use Rattle.nys_meaning.specs.Machines.{machine_rules}
use Rattle.nys_native.specs.Floods.{flood_rules}
use Rattle.nys_route.specs.Routes.{route_rules}
use Rattle.nys_route.specs.Trees.{tree_rules}
use Rattle.nys_native.specs.Sums.{sum_rules}
use Rattle.nys_outside.specs.Input.{Input, TookAll}
use Rattle.nys_scenario.specs.Document.{answer_to, Said}
use Rattle.nys_scenario.specs.Keys.{Refusal}
use Rattle.nys_scenario.specs.Keys.Refusal.{AtKey, AtMachine}
use Rattle.nys_scenario.specs.Protocol.{Protocol}
use Rattle.nys_scenario.specs.Protocol.Protocol.{Sum, Flood, Route, Tree, Machine}
use Rattle.nys_words.specs.declared.command.Command.{Command}
use Rattle.nys_words.specs.declared.request.Request.{Request}
use Rattle.nys_words.specs.declared.request.Request.TheVariants as ask
use Rattle.nys_top.proofs.WorkloadOnce.{workload_once}
use Rattle.nys_words.specs.declared.command.Command.TheVariants.{Bare, Verify, Check, Plan, Replay, Trace}
use Rattle.nys_words.specs.Words as spoken
use Rattle.nys_world_commands.specs.declared.telling.Telling.{Telling}
use Rattle.nys_world_commands.specs.declared.telling.Telling.TheVariants as tell
use Rattle.nys_top.proofs.GuardsOnce.{check_once, plan_once}
use Rattle.nys_top.proofs.ReplayOnce.{replay_once}
use Rattle.nys_top.specs.Commands.{IsCommandAnswer, IsDocumentAnswer, IsReplayOf, IsSaidAnswer, needs_of}
use Rattle.nys_top.specs.Once.{AnswersOnce}
use Rattle.nys_top.specs.Outcomes.{AnswersInput, IsAnswerBy, IsTooLong}

-- with each protocol
replay_of_once : (telling : Telling) (protocol : Protocol) (said : Said) (x y : Answer) → IsReplayOf telling protocol said x
    → IsReplayOf telling protocol said y → x ≡ y
replay_of_once telling Sum said x y p q = replay_once telling (sum_rules said.system.hosts said.system.linked) said x y p q
replay_of_once telling Flood said x y p q = replay_once telling (flood_rules said.system.hosts said.system.linked) said x y p q
replay_of_once telling Route said x y p q = replay_once telling (route_rules said.system.hosts said.system.linked) said x y p q
replay_of_once telling (Tree root) said x y p q = replay_once telling (tree_rules said.system.hosts said.system.linked root) said x y p q
replay_of_once telling (Machine tree) said x y p q = replay_once telling (machine_rules tree said.system.hosts said.system.linked) said x y p q

-- to what a document says
said_once : (command : Command) (said : Said) (x y : Answer) → IsSaidAnswer command said x → IsSaidAnswer command said y → x ≡ y
said_once Bare said x y p q = p ∙ sym q
said_once Verify said x y p q = p ∙ sym q
said_once Check said x y p q = check_once said x y p q
said_once Plan said x y p q = plan_once said x y p q
said_once Replay said x y p q = replay_of_once tell.Report said.system.protocol said x y p q
said_once Trace said x y p q = replay_of_once tell.Trace said.system.protocol said x y p q

-- to a document, or to its first fault
document_once : (command : Command) (document : Result Said Refusal) (x y : Answer) → IsDocumentAnswer command document x
    → IsDocumentAnswer command document y → x ≡ y
document_once command (Ok said) x y p q = said_once command said x y p q
document_once command (Err (AtKey key what)) x y p q = p ∙ sym q
document_once command (Err (AtMachine (At line col kind))) x y p q = p ∙ sym q
document_once command (Err (AtMachine NoMemory)) x y p q = absurd p

-- to the whole input
command_once : (command : Command) (input : List ℕ) (x y : Answer) → IsCommandAnswer command input x → IsCommandAnswer command input y → x ≡ y
command_once command input x y p q = document_once command (answer_to (needs_of command) input) x y p q

-- the whole of what a source tells is what was left of it
pub whole_is : (before : Input) (after : Option Input) (bytes : List ℕ) → TookAll (Some before) after bytes → before.left ≡ bytes
whole_is before None bytes took = absurd took
whole_is before (Some next) bytes took = took.0

-- to words that are a command, or not
by_words : (words : Result Request ℕ) (before : Input) (after : Option Input) (x y : Answer) → IsAnswerBy words (Some before) after x
    → IsAnswerBy words (Some before) after y → x ≡ y
by_words (Err place) before after x y p q = p ∙ sym q
by_words (Ok (ask.Document command)) before after x y (inl p) (inl q) =
    let same = sym (whole_is before after p.input p.whole) ∙ whole_is before after q.input q.whole in
    command_once command p.input x y p.given (subst (λ input. IsCommandAnswer command input y) (sym same) q.given)
by_words (Ok (ask.Document command)) before after x y (inl p) (inr q) =
    let few = p.few in
    let long = q.long in
    let same = ap length (whole_is before after p.input p.whole) in
    absurd (omega (arith, few, long, same))
by_words (Ok (ask.Document command)) before after x y (inr p) (inl q) =
    let few = q.few in
    let long = p.long in
    let same = ap length (whole_is before after q.input q.whole) in
    absurd (omega (arith, few, long, same))
by_words (Ok (ask.Document command)) before after x y (inr p) (inr q) = p.given ∙ sym q.given
by_words (Ok (ask.Workload drawing)) before after x y p q = workload_once drawing x y p q

-- what is answered is one
pub answers_once : (words : List (List ℕ)) (before : Input) (after : Option Input) → AnswersOnce words before after
answers_once words before after x y p q = by_words (spoken.answer_to words) before after x y p q

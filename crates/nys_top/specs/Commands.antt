-- What each command answers to a document.
use Rattle.std.specs.Prelude.{◌≡◌, ℕ, Bool, true, false, List, Result, Ok, Err}
use Rattle.nys_answer.specs.declared.answer.Answer.{Answer}
use Rattle.nys_words.specs.declared.command.Command.{Command}
use Rattle.nys_words.specs.declared.command.Command.TheVariants.{Bare, Verify, Check, Plan, Replay, Trace}
use Rattle.nys_scenario.specs.declared.needs.Needs.{Needs}
use Rattle.nys_lex.specs.declared.fault.MachineFault.TheVariants.{At, NoMemory}
use Rattle.nys_meaning.specs.Machines.{machine_rules}
use Rattle.nys_scenario.specs.Keys.{Refusal}
use Rattle.nys_scenario.specs.Keys.Refusal.{AtKey, AtMachine}
use Rattle.nys_scenario.specs.Protocol.{Protocol}
use Rattle.nys_scenario.specs.Protocol.Protocol.{Sum, Flood, Route, Tree, Machine}
use Rattle.nys_scenario.specs.Document.{Said, answer_to}
use Rattle.nys_native.specs.Sums.{sum_rules}
use Rattle.nys_native.specs.Floods.{flood_rules}
use Rattle.nys_route.specs.Routes.{route_rules}
use Rattle.nys_route.specs.Trees.{tree_rules}
use Rattle.nys_source_commands.specs.Answers.{bare_answer, verify_answer}
use Rattle.nys_guard_commands.specs.Checked.{IsCheckAnswer}
use Rattle.nys_guard_commands.specs.Planned.{IsPlanAnswer}
use Rattle.nys_world_commands.specs.Replayed.{IsReplayAnswer}
use Rattle.nys_world_commands.specs.declared.telling.Telling.{Telling}
use Rattle.nys_world_commands.specs.declared.telling.Telling.TheVariants as tell
use Rattle.nys_top.specs.Refusals.{key_refused, machine_refused}

-- which keys a command needs, of those that may be left out
abbrev pub needs_of : Command → Needs
needs_of Bare = record { master = false; epochs = false }
needs_of Verify = record { master = false; epochs = false }
needs_of Check = record { master = false; epochs = true }
needs_of Plan = record { master = false; epochs = true }
needs_of Replay = record { master = true; epochs = true }
needs_of Trace = record { master = true; epochs = true }

-- what `bare` answers where the hosts run this protocol
abbrev pub bare_of : Protocol → ℕ → (ℕ → ℕ → Bool) → List ℕ → Answer
bare_of Sum hosts linked schedule = bare_answer (sum_rules hosts linked) schedule
bare_of Flood hosts linked schedule = bare_answer (flood_rules hosts linked) schedule
bare_of Route hosts linked schedule = bare_answer (route_rules hosts linked) schedule
bare_of (Tree root) hosts linked schedule = bare_answer (tree_rules hosts linked root) schedule
bare_of (Machine tree) hosts linked schedule = bare_answer (machine_rules tree hosts linked) schedule

-- what `verify` answers where the hosts run this protocol
abbrev pub verify_of : Protocol → ℕ → (ℕ → ℕ → Bool) → List ℕ → Answer
verify_of Sum hosts linked run = verify_answer (sum_rules hosts linked) run
verify_of Flood hosts linked run = verify_answer (flood_rules hosts linked) run
verify_of Route hosts linked run = verify_answer (route_rules hosts linked) run
verify_of (Tree root) hosts linked run = verify_answer (tree_rules hosts linked root) run
verify_of (Machine tree) hosts linked run = verify_answer (machine_rules tree hosts linked) run

-- what `replay` answers, or `trace` by what is told, where the hosts run this protocol
abbrev pub IsReplayOf : Telling → Protocol → Said → Answer → Type 0
IsReplayOf telling Sum said answer =
    IsReplayAnswer telling (sum_rules said.system.hosts said.system.linked) said answer
IsReplayOf telling Flood said answer =
    IsReplayAnswer telling (flood_rules said.system.hosts said.system.linked) said answer
IsReplayOf telling Route said answer =
    IsReplayAnswer telling (route_rules said.system.hosts said.system.linked) said answer
IsReplayOf telling (Tree root) said answer =
    IsReplayAnswer telling (tree_rules said.system.hosts said.system.linked root) said answer
IsReplayOf telling (Machine tree) said answer =
    IsReplayAnswer telling (machine_rules tree said.system.hosts said.system.linked) said answer

-- what a command answers to what a document says
abbrev pub IsSaidAnswer : Command → Said → Answer → Type 0
IsSaidAnswer Bare said answer =
    answer ≡ bare_of said.system.protocol said.system.hosts said.system.linked said.texts.schedule
IsSaidAnswer Verify said answer =
    answer ≡ verify_of said.system.protocol said.system.hosts said.system.linked said.texts.run
IsSaidAnswer Check said answer = IsCheckAnswer said answer
IsSaidAnswer Plan said answer = IsPlanAnswer said answer
IsSaidAnswer Replay said answer = IsReplayOf tell.Report said.system.protocol said answer
IsSaidAnswer Trace said answer = IsReplayOf tell.Trace said.system.protocol said answer

-- what a command answers to a document that says this, or whose first fault is this one; no text has
-- want of memory for its fault
abbrev pub IsDocumentAnswer : Command → Result Said Refusal → Answer → Type 0
IsDocumentAnswer command (Ok said) answer = IsSaidAnswer command said answer
IsDocumentAnswer command (Err (AtKey key kind)) answer = answer ≡ key_refused key kind
IsDocumentAnswer command (Err (AtMachine (At line col kind))) answer = answer ≡ machine_refused line col kind
IsDocumentAnswer command (Err (AtMachine NoMemory)) answer = ⊥

-- what a command answers to the whole input
abbrev pub IsCommandAnswer : Command → List ℕ → Answer → Type 0
IsCommandAnswer command input answer = IsDocumentAnswer command (answer_to (needs_of command) input) answer

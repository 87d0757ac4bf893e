-- Calls in which no status but that of an answer has a cause: the words are a command on a document, which says
-- a scenario, and its machine, guards, liars and texts pass, within all limits; or they are a workload.
use Rattle.std.specs.Prelude.{◌≡◌, ℕ, ◌≤◌, ◌⊎◌, Bool, List, length, map, Option, Some, None, Ok, Err}
use Rattle.nys_answer.specs.declared.answer.Answer.{Answer}
use Rattle.nys_answer.specs.declared.limit.TheConstants.{INPUT_LIMIT}
use Rattle.nys_bare.specs.Schedule.{bare_schedule}
use Rattle.nys_bare.specs.declared.event.BareEvent.{BareEvent}
use Rattle.nys_guard_commands.specs.Checked.{AreSound, IsRefused}
use Rattle.nys_guard_commands.specs.Graphs.{IsGuardsAnswer}
use Rattle.nys_guard_commands.specs.Planned.{unlisted}
use Rattle.nys_guards.specs.declared.table.GuardGraph.{GuardGraph}
use Rattle.nys_meaning.specs.Machines.{machine_rules}
use Rattle.nys_native.specs.Floods.{flood_rules}
use Rattle.nys_route.specs.Routes.{route_rules}
use Rattle.nys_route.specs.Trees.{tree_rules}
use Rattle.nys_native.specs.Sums.{sum_rules}
use Rattle.nys_native.specs.declared.total.Total.{Total}
use Rattle.nys_outside.specs.Input.{Input}
use Rattle.nys_rules.specs.Events.{Plain}
use Rattle.nys_rules.specs.Happening.{HappenAll}
use Rattle.nys_rules.specs.World.{fresh_world, Setting}
use Rattle.nys_rules.specs.declared.notice.End.{End}
use Rattle.nys_runs.specs.StepLines.{run_of}
use Rattle.nys_scenario.specs.Document.{answer_to, Said}
use Rattle.nys_scenario.specs.Protocol.{Protocol}
use Rattle.nys_scenario.specs.Protocol.Protocol.{Sum, Flood, Route, Tree, Machine}
use Rattle.nys_schedule.specs.Schedules.{schedule}
use Rattle.nys_schedule.specs.declared.form.Form.TheVariants as form
use Rattle.nys_source.specs.Rules.{Rules}
use Rattle.nys_source.specs.declared.step.Step.{Step}
use Rattle.nys_source_commands.specs.BareRun.{bare_run}
use Rattle.nys_words.specs.declared.command.Command.{Command}
use Rattle.nys_words.specs.declared.command.Command.TheVariants.{Bare, Verify, Check, Plan, Replay, Trace}
use Rattle.nys_words.specs.Words as spoken
use Rattle.nys_words.specs.declared.request.Request.TheVariants as ask
use Rattle.nys_words.specs.declared.request.Workload.{Workload}
use Rattle.nys_workload_command.specs.Answered.{IsSettingOf, WasDrawn}
use Rattle.nys_played.specs.Settings.{setting_by}
use Rattle.nys_top.specs.Commands.{needs_of}

-- no line of the bare schedule is at fault, each message that it names was sent by then, and no limit is
-- passed
pub record HasBareRun {S : Type 0} (rules : Rules S) (text : List ℕ) : Type 0 where
  pub events : List BareEvent
  pub read : bare_schedule rules.hosts text ≡ Ok events
  pub run : List Step
  pub runs : bare_run rules events ≡ Ok run

-- no line of the run text is at fault, and there are no more steps than the limit
pub record HasSteps (text : List ℕ) : Type 0 where
  pub steps : List Step
  pub read : run_of text ≡ Ok steps

-- no line of the schedule is at fault, and its events lead to no end: each packet that is named was sent by
-- then, no event is forged or a clash, and no limit is passed
pub record HasWorld {S : Type 0} (setting : Setting S) (text : List ℕ) : Type 0 where
  pub events : List Plain
  pub read : schedule form.Replay setting.scope.rules.hosts setting.liars text ≡ Ok events
  pub endless : (end : End) → HappenAll setting (fresh_world setting) events (Err end) → ⊥

-- all guards are good, and stand the liars
abbrev pub HasGuards : Said → Type 0
HasGuards said = (answer : Answer) → IsRefused said answer → ⊥

-- among such guards the schedule leads to no end
abbrev pub IsPlayed : {S : Type 0} → Rules S → Said → Type 0
IsPlayed rules said = (graphs : List GuardGraph) → AreSound said graphs
    → HasWorld (setting_by rules graphs said.guarded.master said.guarded.liars) said.texts.schedule

-- the bare schedule passes where the hosts run this protocol
abbrev pub HasBareRunOf : Protocol → ℕ → (ℕ → ℕ → Bool) → List ℕ → Type 0
HasBareRunOf Sum hosts linked text = HasBareRun (sum_rules hosts linked) text
HasBareRunOf Flood hosts linked text = HasBareRun (flood_rules hosts linked) text
HasBareRunOf Route hosts linked text = HasBareRun (route_rules hosts linked) text
HasBareRunOf (Tree root) hosts linked text = HasBareRun (tree_rules hosts linked root) text
HasBareRunOf (Machine tree) hosts linked text = HasBareRun (machine_rules tree hosts linked) text

-- so does the schedule among the guards
abbrev pub IsPlayedOf : Protocol → Said → Type 0
IsPlayedOf Sum said = IsPlayed (sum_rules said.system.hosts said.system.linked) said
IsPlayedOf Flood said = IsPlayed (flood_rules said.system.hosts said.system.linked) said
IsPlayedOf Route said = IsPlayed (route_rules said.system.hosts said.system.linked) said
IsPlayedOf (Tree root) said = IsPlayed (tree_rules said.system.hosts said.system.linked root) said
IsPlayedOf (Machine tree) said = IsPlayed (machine_rules tree said.system.hosts said.system.linked) said

-- what the command looks at of a document passes
abbrev pub SaidPasses : Command → Said → Type 0
SaidPasses Bare said =
    HasBareRunOf said.system.protocol said.system.hosts said.system.linked said.texts.schedule
SaidPasses Verify said = HasSteps said.texts.run
SaidPasses Check said = HasGuards said
SaidPasses Plan said = (answer : Answer)
    → IsGuardsAnswer said.system.hosts said.system.linked (map unlisted said.guarded.epochs) answer → ⊥
SaidPasses Replay said = HasGuards said × IsPlayedOf said.system.protocol said
SaidPasses Trace said = HasGuards said × IsPlayedOf said.system.protocol said

-- the words are a command on a document, the input is within its limit, and its document passes
pub record Passes (words : List (List ℕ)) (before : Input) : Type 0 where
  pub command : Command
  pub named : spoken.answer_to words ≡ Ok (ask.Document command)
  pub few : length before.left ≤ INPUT_LIMIT
  pub said : Said
  pub says : answer_to (needs_of command) before.left ≡ Ok said
  pub passes : SaidPasses command said

-- so it is of what a source tells
abbrev pub DocumentPasses : List (List ℕ) → Option Input → Type 0
DocumentPasses words None = ⊥
DocumentPasses words (Some before) = Passes words before

-- the words are a workload, and its events lead to no end: no limit is passed
pub record WorkloadPasses (words : List (List ℕ)) : Type 0 where
  pub drawing : Workload
  pub named : spoken.answer_to words ≡ Ok (ask.Workload drawing)
  pub endless : (setting : Setting Total) → IsSettingOf drawing.hosts setting → (end : End)
      → WasDrawn setting drawing.seed drawing.hosts drawing.events (Err end) → ⊥

-- the document passes, or the workload does, which needs none
abbrev pub PassesFrom : List (List ℕ) → Option Input → Type 0
PassesFrom words told = DocumentPasses words told ⊎ WorkloadPasses words

-- the call is done: with status 0, or 1 where `verify` named a step, but for want of memory
abbrev pub IsDone : List (List ℕ) → ℕ → Type 0
IsDone words status =
    (status ≡ 0) ⊎ (((status ≡ 1) × (spoken.answer_to words ≡ Ok (ask.Document Verify))) ⊎ (status ≡ 14))

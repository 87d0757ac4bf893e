-- What `bare`, `replay` and `trace` show of routes and of what is multicast, whatever the document.
use Rattle.std.specs.Prelude.{◌≡◌, ℕ, ◌<◌, Bool, List, ◌++◌, length, Result, Ok, Err}
use Rattle.nys_agreement.specs.Alone.{alone}
use Rattle.nys_bare.specs.Schedule.{bare_schedule}
use Rattle.nys_bare.specs.declared.event.BareEvent.{BareEvent}
use Rattle.nys_guard_commands.specs.Checked.{AreSound}
use Rattle.nys_guards.specs.declared.table.GuardGraph.{GuardGraph}
use Rattle.nys_route.specs.Multicast.{IsMulticast}
use Rattle.nys_route.specs.Routed.{IsRouted}
use Rattle.nys_route.specs.Routes.{route_rules, way_to}
use Rattle.nys_route.specs.Trees.{tree_rules}
use Rattle.nys_route.specs.Walks.{HasWalk}
use Rattle.nys_route.specs.declared.way.TheConstants.{UNKNOWN}
use Rattle.nys_route.specs.declared.way.Way.{Way}
use Rattle.nys_rules.specs.Events.{Plain}
use Rattle.nys_rules.specs.Happening.{HappenAll}
use Rattle.nys_rules.specs.Spelling.{HasLog, printed_run}
use Rattle.nys_rules.specs.World.{fresh_world, Setting, World}
use Rattle.nys_scenario.specs.Document.{Said, answer_to}
use Rattle.nys_scenario.specs.Keys.{Refusal}
use Rattle.nys_scenario.specs.Protocol.{Protocol}
use Rattle.nys_scenario.specs.Protocol.Protocol.{Sum, Flood, Route, Tree, Machine}
use Rattle.nys_schedule.specs.Schedules.{schedule}
use Rattle.nys_schedule.specs.declared.form.Form.TheVariants.{Replay}
use Rattle.nys_source.specs.Rules.{Rules}
use Rattle.nys_source.specs.Runs.{up_to}
use Rattle.nys_source.specs.declared.step.Step.{Step}
use Rattle.nys_source_commands.specs.BareRun.{bare_run}
use Rattle.nys_words.specs.declared.command.Command.TheVariants as command
use Rattle.nys_played.specs.Settings.{setting_by}
use Rattle.nys_top.specs.Commands.{needs_of}

-- the bare run of a schedule, where it has one, is one of which this holds
abbrev pub BareHolds : {S : Type 0} → Rules S → List ℕ → (List Step → Type 0) → Type 0
BareHolds rules text Holds = (events : List BareEvent) (run : List Step) → bare_schedule rules.hosts text ≡ Ok events
    → bare_run rules events ≡ Ok run → Holds run

-- this holds of each world on the way of a document's schedule, among its guard graphs
abbrev pub WorldsHold : {S : Type 0} → Rules S → Said → (Setting S → World → Type 0) → Type 0
WorldsHold rules said Holds = (graphs : List GuardGraph) → AreSound said graphs → (events before rest : List Plain) (w : World)
    → schedule Replay rules.hosts said.guarded.liars said.texts.schedule ≡ Ok events → events ≡ before ++ rest
    → HappenAll (setting_by rules graphs said.guarded.master said.guarded.liars) (fresh_world (setting_by rules graphs said.guarded.master said.guarded.liars)) before (Ok w)
    → Holds (setting_by rules graphs said.guarded.master said.guarded.liars) w

-- the printed run is one of which this holds, and so is what it is up to the end of each log that an honest host has
pub record RunsHold {S : Type 0} (Holds : List Step → Type 0) (setting : Setting S) (w : World) : Type 0 where
  pub whole : Holds (printed_run setting.scope w)
  pub logs : (g h : ℕ) → HasLog setting w g h → Holds (up_to h (length ((w.nodes g).logs h)) (printed_run setting.scope w))

-- each distance that an honest replica shows is the length of a walk
abbrev pub ShowsWalks : (ℕ → ℕ → Bool) → Setting (List Way) → World → Type 0
ShowsWalks linked setting w = (g h d : ℕ) → HasLog setting w g h
    → (way_to ((alone setting.scope.rules h ((w.nodes g).logs h)).state h) d).distance < UNKNOWN
    → HasWalk linked h d (way_to ((alone setting.scope.rules h ((w.nodes g).logs h)).state h) d).distance

-- so it is of `bare` where the hosts run this protocol
abbrev pub IsBareShown : Protocol → Said → Type 0
IsBareShown Sum said = Unit {0}
IsBareShown Flood said = Unit {0}
IsBareShown (Machine tree) said = Unit {0}
IsBareShown Route said =
    BareHolds (route_rules said.system.hosts said.system.linked) said.texts.schedule (IsRouted said.system.hosts said.system.linked)
IsBareShown (Tree root) said =
    BareHolds (tree_rules said.system.hosts said.system.linked root) said.texts.schedule (IsMulticast said.system.hosts said.system.linked root)

-- and of `replay` and `trace`
abbrev pub IsReplayShown : Protocol → Said → Type 0
IsReplayShown Sum said = Unit {0}
IsReplayShown Flood said = Unit {0}
IsReplayShown (Machine tree) said = Unit {0}
IsReplayShown Route said =
    WorldsHold (route_rules said.system.hosts said.system.linked) said (RunsHold (IsRouted said.system.hosts said.system.linked))
    × WorldsHold (route_rules said.system.hosts said.system.linked) said (ShowsWalks said.system.linked)
IsReplayShown (Tree root) said =
    WorldsHold (tree_rules said.system.hosts said.system.linked root) said (RunsHold (IsMulticast said.system.hosts said.system.linked root))

-- of a document that says a scenario; of one that is refused nothing is said
abbrev pub IsBareDocument : Result Said Refusal → Type 0
IsBareDocument (Ok said) = IsBareShown said.system.protocol said
IsBareDocument (Err refusal) = Unit {0}

-- and of a document of `replay` or `trace`
abbrev pub IsReplayDocument : Result Said Refusal → Type 0
IsReplayDocument (Ok said) = IsReplayShown said.system.protocol said
IsReplayDocument (Err refusal) = Unit {0}

-- all, of an input, as the document that each command reads
pub record IsShownInput (input : List ℕ) : Type 0 where
  pub bare : IsBareDocument (answer_to (needs_of command.Bare) input)
  pub replay : IsReplayDocument (answer_to (needs_of command.Replay) input)
  pub trace : IsReplayDocument (answer_to (needs_of command.Trace) input)

-- What `replay` and `trace` promise of the worlds on the way to their answer, beside what they answer.
use Rattle.std.specs.Prelude.{◌≡◌, ℕ, List, Ok}
use Rattle.nys_follows.specs.Promises.{IsPromisedOnTheWay}
use Rattle.nys_guard_commands.specs.Checked.{AreSound}
use Rattle.nys_guards.specs.declared.table.GuardGraph.{GuardGraph}
use Rattle.nys_rules.specs.Events.{Plain}
use Rattle.nys_rules.specs.World.{Setting}
use Rattle.nys_scenario.specs.Document.{Said}
use Rattle.nys_schedule.specs.Schedules.{schedule}
use Rattle.nys_schedule.specs.declared.form.Form.TheVariants.{Replay}
use Rattle.nys_source.specs.Rules.{Rules}
use Rattle.nys_played.specs.Settings.{setting_by}

-- each world on the way of a schedule's events keeps what worlds promise
abbrev pub IsSchedulePromised : {S : Type 0} → Setting S → List ℕ → Type 0
IsSchedulePromised setting text = (events : List Plain)
    → schedule Replay setting.scope.rules.hosts setting.liars text ≡ Ok events → IsPromisedOnTheWay setting events

-- so it is of the schedule of a document, among its guard graphs, where all are good and stand the liars
abbrev pub IsReplayPromised : {S : Type 0} → Rules S → Said → Type 0
IsReplayPromised rules said = (graphs : List GuardGraph) → AreSound said graphs
    → IsSchedulePromised (setting_by rules graphs said.guarded.master said.guarded.liars) said.texts.schedule

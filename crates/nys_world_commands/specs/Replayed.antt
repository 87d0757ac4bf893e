-- What `replay` and `trace` answer.
use Rattle.std.specs.Prelude.{◌≡◌, ℕ, ◌⊎◌, List, Result, Ok, Err}
use Rattle.nys_answer.specs.declared.answer.Answer.{Answer}
use Rattle.nys_answer.specs.declared.status.Status.TheVariants.{Done}
use Rattle.nys_bare.specs.declared.fault.ScheduleFault.{ScheduleFault}
use Rattle.nys_guard_commands.specs.Checked.{AreSound, IsRefused}
use Rattle.nys_guards.specs.declared.table.GuardGraph.{GuardGraph}
use Rattle.nys_rules.specs.Events.{Plain}
use Rattle.nys_rules.specs.Happening.{HappenAll}
use Rattle.nys_rules.specs.World.{fresh_world, Setting, World}
use Rattle.nys_rules.specs.declared.notice.End.{End}
use Rattle.nys_scenario.specs.Document.{Said}
use Rattle.nys_schedule.specs.Schedules.{schedule}
use Rattle.nys_schedule.specs.declared.form.Form.TheVariants.{Replay}
use Rattle.nys_source.specs.Rules.{Rules}
use Rattle.nys_source_commands.specs.Refusals.{schedule_refused}
use Rattle.nys_played.specs.Refusals.{IsEndAnswer}
use Rattle.nys_played.specs.Settings.{setting_by}
use Rattle.nys_world_commands.specs.Telling.{text_of}
use Rattle.nys_world_commands.specs.declared.telling.Telling.{Telling}

-- what is answered to the world that events lead to, its report or its trace, or to its end
abbrev pub IsOutcomeAnswer : {S : Type 0} → Telling → Setting S → Result World End → Answer → Type 0
IsOutcomeAnswer telling setting (Ok w) answer = answer ≡ record { status = Done; text = text_of telling setting w }
IsOutcomeAnswer telling setting (Err end) answer = IsEndAnswer end answer

-- the events happen from the fresh world on, and what they lead to is answered
pub record IsEventsAnswer {S : Type 0} (telling : Telling) (setting : Setting S) (events : List Plain) (answer : Answer) : Type 0 where
  pub outcome : Result World End
  pub happen : HappenAll setting (fresh_world setting) events outcome
  pub given : IsOutcomeAnswer telling setting outcome answer

-- what is answered to a schedule that was read, or to its fault
abbrev pub IsScheduleAnswer : {S : Type 0} → Telling → Setting S → Result (List Plain) ScheduleFault → Answer → Type 0
IsScheduleAnswer telling setting (Ok events) answer = IsEventsAnswer telling setting events answer
IsScheduleAnswer telling setting (Err fault) answer = answer ≡ schedule_refused fault

-- what is answered to the text of a schedule
abbrev pub IsTextAnswer : {S : Type 0} → Telling → Setting S → List ℕ → Answer → Type 0
IsTextAnswer telling setting text answer =
    IsScheduleAnswer telling setting (schedule Replay setting.scope.rules.hosts setting.liars text) answer

-- the guards of all epochs are good and stand the liars, and the schedule is replayed among them
pub record IsReplayed {S : Type 0} (telling : Telling) (rules : Rules S) (said : Said) (answer : Answer) : Type 0 where
  pub graphs : List GuardGraph
  pub sound : AreSound said graphs
  pub given : IsTextAnswer telling (setting_by rules graphs said.guarded.master said.guarded.liars) said.texts.schedule answer

-- what `replay` answers, or `trace` by what is told, where hosts follow these rules: a refusal of guards or
-- liars, or what the schedule leads to
abbrev pub IsReplayAnswer : {S : Type 0} → Telling → Rules S → Said → Answer → Type 0
IsReplayAnswer telling rules said answer = IsRefused said answer ⊎ IsReplayed telling rules said answer

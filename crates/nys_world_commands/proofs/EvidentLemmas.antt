-- With status 0 the text of `trace` is that of a world whose run has its evidence in it.
use Rattle.std.proofs.Common.{◌≡◌, ◌≤◌, true, List, Result, Ok, Err, ap, inl, inr, arith}
use Rattle.nys_answer.specs.declared.answer.Answer.{Answer}
use Rattle.nys_answer.specs.Codes.{code_of}
use Rattle.nys_bare.specs.declared.fault.ScheduleFault.{ScheduleFault}
use Rattle.nys_bare.specs.declared.fault.ScheduleFault.TheVariants as schedule
use Rattle.nys_evidence.proofs.EvidenceWorlds.{evident_worlds}
use Rattle.nys_follows.specs.Scenario.{IsScenario}
use Rattle.nys_rules.specs.Events.{Plain}
use Rattle.nys_rules.specs.Happening.{HappenAll}
use Rattle.nys_rules.specs.World.{fresh_world, Setting, World}
use Rattle.nys_rules.specs.declared.notice.End.{End}
use Rattle.nys_scenario.specs.Bounds.{IsBounded}
use Rattle.nys_scenario.specs.Document.{Said}
use Rattle.nys_scenario.specs.declared.needs.Needs.{Needs}
use Rattle.nys_source.specs.Rules.{Rules}
use Rattle.nys_world_commands.proofs.PrintedLemmas.{end_fails, refusal_fails, status_of}
use Rattle.nys_world_commands.proofs.ScenarioLemmas.{scenario_said}
use Rattle.nys_world_commands.specs.Replayed.{IsEventsAnswer, IsOutcomeAnswer, IsReplayAnswer, IsScheduleAnswer}
use Rattle.nys_played.specs.Settings.{setting_by}
use Rattle.nys_world_commands.specs.Evident.{TracesDocument, TracesWorld}
use Rattle.nys_world_commands.specs.declared.telling.Telling.TheVariants as tell

-- the world that events lead to is traced
events_trace : {S : Type 0} (setting : Setting S) (events : List Plain) (answer : Answer) → IsScenario setting
    → IsEventsAnswer tell.Trace setting events answer → code_of answer.status ≡ 0 → TracesWorld setting answer.text
events_trace {S} setting events answer asked given done = by given.outcome given.happen given.given
  where
    by : (outcome : Result World End) → HappenAll setting (fresh_world setting) events outcome
        → IsOutcomeAnswer tell.Trace setting outcome answer → TracesWorld setting answer.text
    by (Ok w) happen is = record {
      world = w;
      events = events;
      happen = happen;
      evident = evident_worlds setting asked events w happen;
      text_is = ap (λ (a : Answer). a.text) is;
    }
    by (Err end) happen is = absurd (end_fails end answer is done)

-- a fault of the schedule has another status
schedule_traces : {S : Type 0} (setting : Setting S) (read : Result (List Plain) ScheduleFault) (answer : Answer)
    → IsScenario setting → IsScheduleAnswer tell.Trace setting read answer → code_of answer.status ≡ 0
    → TracesWorld setting answer.text
schedule_traces setting (Ok events) answer asked given done = events_trace setting events answer asked given done
schedule_traces setting (Err (schedule.Line line kind)) answer asked given done =
    let s = status_of answer _ given in absurd (omega (arith, s, done))
schedule_traces setting (Err schedule.TooMany) answer asked given done =
    let s = status_of answer _ given in absurd (omega (arith, s, done))
schedule_traces setting (Err schedule.NoMemory) answer asked given done =
    let s = status_of answer _ given in absurd (omega (arith, s, done))

-- what `trace` answers with status 0 to a document that has an epoch
pub trace_tells : {S : Type 0} (rules : Rules S) (needs : Needs) (said : Said) (answer : Answer) → rules.hosts ≡ said.system.hosts
    → said.system.hosts ≤ 32 → needs.epochs ≡ true → IsBounded needs said
    → IsReplayAnswer tell.Trace rules said answer
    → code_of answer.status ≡ 0 → TracesDocument rules said answer.text
trace_tells rules needs said answer same few needed bounded (inl refused) done = absurd (refusal_fails said answer refused done)
trace_tells rules needs said answer same few needed bounded (inr replayed) done = record {
  graphs = replayed.graphs;
  sound = replayed.sound;
  traces =
      schedule_traces (setting_by rules replayed.graphs said.guarded.master said.guarded.liars) _ answer
      (scenario_said rules needs said replayed.graphs same few needed bounded replayed.sound) replayed.given done;
}

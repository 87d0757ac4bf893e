-- With status 0 the text of `replay` tells a run of the source system.
use Rattle.std.proofs.Common.{◌≡◌, ◌≤◌, Bool, true, false, List, Result, Ok, Err, ap, inl, inr, refl, subst, sym, ◌∙◌, arith}
use Rattle.std.specs.Prelude.{if◌then◌else◌, nat_le}
use Rattle.nys_answer.specs.declared.answer.Answer.{Answer}
use Rattle.nys_answer.specs.Codes.{code_of}
use Rattle.nys_answer.specs.Lines.{too_large}
use Rattle.nys_answer.specs.declared.limit.Limit.TheVariants.{Bytes, Packets}
use Rattle.nys_bare.specs.declared.fault.ScheduleFault.{ScheduleFault}
use Rattle.nys_bare.specs.declared.fault.ScheduleFault.TheVariants as schedule
use Rattle.nys_follows.specs.Scenario.{IsScenario}
use Rattle.nys_guard_commands.specs.Checked.{IsRefused}
use Rattle.nys_printed.proofs.PrintedLemmas.{reports_tell}
use Rattle.nys_printed.specs.Told.{TellsRun}
use Rattle.nys_rules.specs.Events.{Plain}
use Rattle.nys_rules.specs.Happening.{HappenAll}
use Rattle.nys_rules.specs.World.{fresh_world, Setting, World}
use Rattle.nys_rules.specs.declared.limits.TheConstants.{MAX_PACKETS, MAX_POOL_BYTES}
use Rattle.nys_rules.specs.declared.notice.End.{End}
use Rattle.nys_rules.specs.declared.notice.End.TheVariants as ending
use Rattle.nys_scenario.specs.Bounds.{IsBounded}
use Rattle.nys_scenario.specs.Document.{Said}
use Rattle.nys_scenario.specs.declared.needs.Needs.{Needs}
use Rattle.nys_source.specs.Rules.{Rules}
use Rattle.nys_world_commands.proofs.ScenarioLemmas.{scenario_said}
use Rattle.nys_played.specs.Refusals.{IsEndAnswer, pool_full}
use Rattle.nys_world_commands.specs.Replayed.{IsEventsAnswer, IsOutcomeAnswer, IsReplayAnswer, IsScheduleAnswer}
use Rattle.nys_played.specs.Settings.{setting_by}
use Rattle.nys_world_commands.specs.declared.telling.Telling.TheVariants as tell

-- the status of an answer
pub status_of : (answer given : Answer) → answer ≡ given → code_of answer.status ≡ code_of given.status
status_of answer given same = ap (λ a. code_of a.status) same

-- the status where a pool is full, whichever limit it is
full_status : (many : Bool)
    → code_of (if many then too_large Packets MAX_PACKETS else too_large Bytes MAX_POOL_BYTES).status ≡ 10
full_status true = refl
full_status false = refl

-- the end of a world has another status
pub end_fails : (end : End) (answer : Answer) → IsEndAnswer end answer → code_of answer.status ≡ 0 → ⊥
end_fails (ending.NoPacket event packet have) answer given done = let s = status_of answer _ given in omega (arith, s, done)
end_fails (ending.Forged event maker taker statement) answer given done = let s = status_of answer _ given in omega (arith, s, done)
end_fails (ending.Clash event maker taker made taken) answer given done = let s = status_of answer _ given in omega (arith, s, done)
end_fails (ending.PoolFull event packets bytes) answer given done =
    let s = status_of answer (pool_full packets) given ∙ full_status (nat_le MAX_PACKETS packets) in omega (arith, s, done)
end_fails ending.NoMemory answer given done = absurd given

-- the report of a world tells a run
events_tell : {S : Type 0} (setting : Setting S) (events : List Plain) (answer : Answer) → IsScenario setting
    → IsEventsAnswer tell.Report setting events answer → code_of answer.status ≡ 0 → TellsRun setting.scope.rules answer.text
events_tell {S} setting events answer asked given done = by given.outcome given.happen given.given
  where
    by : (outcome : Result World End) → HappenAll setting (fresh_world setting) events outcome → IsOutcomeAnswer tell.Report setting outcome answer
        → TellsRun setting.scope.rules answer.text
    by (Ok w) happen is =
        subst (TellsRun setting.scope.rules) (sym (ap (λ (a : Answer). a.text) is))
        (reports_tell setting asked events w happen)
    by (Err end) happen is = absurd (end_fails end answer is done)

-- a fault of the schedule has another status
schedule_tells : {S : Type 0} (setting : Setting S) (read : Result (List Plain) ScheduleFault) (answer : Answer) → IsScenario setting
    → IsScheduleAnswer tell.Report setting read answer → code_of answer.status ≡ 0 → TellsRun setting.scope.rules answer.text
schedule_tells setting (Ok events) answer asked given done = events_tell setting events answer asked given done
schedule_tells setting (Err (schedule.Line line kind)) answer asked given done =
    let s = status_of answer _ given in absurd (omega (arith, s, done))
schedule_tells setting (Err schedule.TooMany) answer asked given done =
    let s = status_of answer _ given in absurd (omega (arith, s, done))
schedule_tells setting (Err schedule.NoMemory) answer asked given done =
    let s = status_of answer _ given in absurd (omega (arith, s, done))

-- so has a refusal of guards or liars
pub refusal_fails : (said : Said) (answer : Answer) → IsRefused said answer → code_of answer.status ≡ 0 → ⊥
refusal_fails said answer (inl guards) done = let s = status_of answer _ guards.here.text in omega (arith, s, done)
refusal_fails said answer (inr liars) done = let s = status_of answer _ liars.liars.here.text in omega (arith, s, done)

-- what `replay` answers with status 0 to a document that has an epoch
pub replay_tells : {S : Type 0} (rules : Rules S) (needs : Needs) (said : Said) (answer : Answer) → rules.hosts ≡ said.system.hosts
    → said.system.hosts ≤ 32 → needs.epochs ≡ true → IsBounded needs said
    → IsReplayAnswer tell.Report rules said answer
    → code_of answer.status ≡ 0 → TellsRun rules answer.text
replay_tells rules needs said answer same few needed bounded (inl refused) done = absurd (refusal_fails said answer refused done)
replay_tells rules needs said answer same few needed bounded (inr replayed) done =
    schedule_tells (setting_by rules replayed.graphs said.guarded.master said.guarded.liars) _ answer
    (scenario_said rules needs said replayed.graphs same few needed bounded replayed.sound) replayed.given done

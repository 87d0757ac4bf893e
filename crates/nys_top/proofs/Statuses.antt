-- Which statuses an answer has: none of those that only the outside gives.
use Rattle.std.proofs.Common.{◌≡◌, ℕ, ◌≤◌, ◌⊎◌, Bool, true, false, nat_le, if◌then◌else◌, List, length, Option, Some, None, Result, Ok, Err, subst, sym, inl, inr, refl, arith}
use Rattle.nys_answer.specs.declared.answer.Answer.{Answer}
use Rattle.nys_answer.specs.declared.limit.Limit.TheVariants as limit
use Rattle.nys_answer.specs.Codes.{code_of}
use Rattle.nys_answer.specs.Lines.{too_large}
use Rattle.nys_words.specs.declared.command.Command.{Command}
use Rattle.nys_words.specs.declared.command.Command.TheVariants.{Bare, Verify, Check, Plan, Replay, Trace}
use Rattle.nys_lex.specs.declared.fault.MachineFault.TheVariants.{At, NoMemory}
use Rattle.nys_meaning.specs.Machines.{machine_rules}
use Rattle.nys_scenario.specs.Keys.{Refusal}
use Rattle.nys_scenario.specs.Keys.Refusal.{AtKey, AtMachine}
use Rattle.nys_scenario.specs.Protocol.{Protocol}
use Rattle.nys_scenario.specs.Protocol.Protocol.{Sum, Flood, Route, Tree, Machine}
use Rattle.nys_scenario.specs.Document.{Said, answer_to}
use Rattle.nys_native.specs.Sums.{sum_rules}
use Rattle.nys_native.specs.Floods.{flood_rules}
use Rattle.nys_route.specs.Routes.{route_rules}
use Rattle.nys_route.specs.Trees.{tree_rules}
use Rattle.nys_source.specs.Rules.{Rules}
use Rattle.nys_source.specs.Source.{fresh}
use Rattle.nys_source.specs.declared.step.Step.{Step}
use Rattle.nys_source.specs.declared.step.NotAStep.{NotAStep}
use Rattle.nys_bare.specs.declared.event.BareEvent.{BareEvent}
use Rattle.nys_bare.specs.declared.fault.ScheduleFault.{ScheduleFault}
use Rattle.nys_bare.specs.declared.fault.ScheduleFault.TheVariants as schedule
use Rattle.nys_bare.specs.Schedule.{bare_schedule}
use Rattle.nys_runs.specs.declared.fault.RunFault.{RunFault}
use Rattle.nys_runs.specs.declared.fault.RunFault.TheVariants as run
use Rattle.nys_runs.specs.StepLines.{run_of}
use Rattle.nys_source_commands.specs.declared.bare_run.BareEnd.{BareEnd}
use Rattle.nys_source_commands.specs.declared.bare_run.BareEnd.TheVariants as end
use Rattle.nys_source_commands.specs.BareRun.{bare_run}
use Rattle.nys_source_commands.specs.Answers.{events_answer, first_refused, run_answer, steps_answer, verdict}
use Rattle.nys_guard_commands.specs.Checked.{IsCheckAnswer, IsRefused}
use Rattle.nys_guard_commands.specs.Planned.{IsPlanAnswer}
use Rattle.nys_rules.specs.Events.{Plain}
use Rattle.nys_rules.specs.declared.limits.TheConstants.{MAX_PACKETS, MAX_POOL_BYTES}
use Rattle.nys_rules.specs.World.{Setting, World}
use Rattle.nys_rules.specs.declared.notice.End.{End}
use Rattle.nys_rules.specs.declared.notice.End.TheVariants as ending
use Rattle.nys_played.specs.Refusals.{IsEndAnswer, pool_full}
use Rattle.nys_words.specs.declared.request.Workload.{Workload}
use Rattle.nys_workload_command.specs.Answered as drawn
use Rattle.nys_world_commands.specs.Replayed.{IsOutcomeAnswer, IsReplayAnswer, IsScheduleAnswer, IsTextAnswer}
use Rattle.nys_world_commands.specs.declared.telling.Telling.{Telling}
use Rattle.nys_world_commands.specs.declared.telling.Telling.TheVariants as tell
use Rattle.nys_top.specs.Commands.{IsCommandAnswer, IsDocumentAnswer, IsReplayOf, IsSaidAnswer, needs_of}

-- the answer is one of a command, not of the outside
pub record IsPlain (answer : Answer) : Type 0 where
  pub status : (code_of answer.status ≤ 10) ⊎ ((code_of answer.status ≡ 14) ⊎ (code_of answer.status ≡ 15))

-- an equal answer is plain too
plain_as : (plain answer : Answer) → answer ≡ plain → IsPlain plain → IsPlain answer
plain_as plain answer same given = subst IsPlain (sym same) given

-- what a bare run comes to
run_plain : {S : Type 0} (rules : Rules S) (outcome : Result (List Step) BareEnd) → IsPlain (run_answer rules outcome)
run_plain rules (Ok steps) = record { status = inl (omega arith) }
run_plain rules (Err (end.NoMessage event message have)) = record { status = inl (omega arith) }
run_plain rules (Err end.TooMany) = record { status = inl (omega arith) }
run_plain rules (Err end.NoMemory) = record { status = inr (inl refl) }

-- what a schedule comes to
events_plain : {S : Type 0} (rules : Rules S) (events : Result (List BareEvent) ScheduleFault) → IsPlain (events_answer rules events)
events_plain rules (Ok events) = run_plain rules (bare_run rules events)
events_plain rules (Err (schedule.Line line kind)) = record { status = inl (omega arith) }
events_plain rules (Err schedule.TooMany) = record { status = inl (omega arith) }
events_plain rules (Err schedule.NoMemory) = record { status = inr (inl refl) }

-- whether steps are a run
verdict_plain : (count : ℕ) (refused : Option (ℕ × NotAStep)) → IsPlain (verdict count refused)
verdict_plain count None = record { status = inl (omega arith) }
verdict_plain count (Some refused) = record { status = inl (omega arith) }

-- what a run text comes to
steps_plain : {S : Type 0} (rules : Rules S) (steps : Result (List Step) RunFault) → IsPlain (steps_answer rules steps)
steps_plain rules (Ok steps) = verdict_plain (length steps) (first_refused rules 0 (fresh rules) steps)
steps_plain rules (Err (run.Grammar line)) = record { status = inl (omega arith) }
steps_plain rules (Err run.TooMany) = record { status = inl (omega arith) }
steps_plain rules (Err run.NoMemory) = record { status = inr (inl refl) }

-- a refusal for guards or liars
refused_plain : (said : Said) (answer : Answer) → IsRefused said answer → IsPlain answer
refused_plain said answer (inl guards) = plain_as _ answer guards.here.text (record { status = inl (omega arith) })
refused_plain said answer (inr liars) = plain_as _ answer liars.liars.here.text (record { status = inl (omega arith) })

-- what `check` answers
check_plain : (said : Said) (answer : Answer) → IsCheckAnswer said answer → IsPlain answer
check_plain said answer (inl refused) = refused_plain said answer refused
check_plain said answer (inr good) = plain_as _ answer good.text (record { status = inl (omega arith) })

-- what `plan` answers
plan_plain : (said : Said) (answer : Answer) → IsPlanAnswer said answer → IsPlain answer
plan_plain said answer (inl guards) = plain_as _ answer guards.here.text (record { status = inl (omega arith) })
plan_plain said answer (inr planned) = plain_as _ answer planned.text (record { status = inl (omega arith) })

-- what `bare` answers with each protocol
bare_plain : (protocol : Protocol) (said : Said) (answer : Answer) → said.system.protocol ≡ protocol → IsSaidAnswer Bare said answer → IsPlain answer
bare_plain Sum said answer same given =
    let rules = sum_rules said.system.hosts said.system.linked in
    plain_as _ answer (rw same at given) (events_plain rules (bare_schedule said.system.hosts said.texts.schedule))
bare_plain Flood said answer same given =
    let rules = flood_rules said.system.hosts said.system.linked in
    plain_as _ answer (rw same at given) (events_plain rules (bare_schedule said.system.hosts said.texts.schedule))
bare_plain Route said answer same given =
    let rules = route_rules said.system.hosts said.system.linked in
    plain_as _ answer (rw same at given) (events_plain rules (bare_schedule said.system.hosts said.texts.schedule))
bare_plain (Tree root) said answer same given =
    let rules = tree_rules said.system.hosts said.system.linked root in
    plain_as _ answer (rw same at given) (events_plain rules (bare_schedule said.system.hosts said.texts.schedule))
bare_plain (Machine tree) said answer same given =
    let rules = machine_rules tree said.system.hosts said.system.linked in
    plain_as _ answer (rw same at given) (events_plain rules (bare_schedule said.system.hosts said.texts.schedule))

-- what `verify` answers with each protocol
verify_plain : (protocol : Protocol) (said : Said) (answer : Answer) → said.system.protocol ≡ protocol → IsSaidAnswer Verify said answer → IsPlain answer
verify_plain Sum said answer same given =
    let rules = sum_rules said.system.hosts said.system.linked in
    plain_as _ answer (rw same at given) (steps_plain rules (run_of said.texts.run))
verify_plain Flood said answer same given =
    let rules = flood_rules said.system.hosts said.system.linked in
    plain_as _ answer (rw same at given) (steps_plain rules (run_of said.texts.run))
verify_plain Route said answer same given =
    let rules = route_rules said.system.hosts said.system.linked in
    plain_as _ answer (rw same at given) (steps_plain rules (run_of said.texts.run))
verify_plain (Tree root) said answer same given =
    let rules = tree_rules said.system.hosts said.system.linked root in
    plain_as _ answer (rw same at given) (steps_plain rules (run_of said.texts.run))
verify_plain (Machine tree) said answer same given =
    let rules = machine_rules tree said.system.hosts said.system.linked in
    plain_as _ answer (rw same at given) (steps_plain rules (run_of said.texts.run))

-- one of two answers
either_plain : (first : Bool) (one other : Answer) → IsPlain one → IsPlain other → IsPlain (if first then one else other)
either_plain true one other plain also = plain
either_plain false one other plain also = also

-- what is answered where there is no room for one packet more
pool_plain : (packets : ℕ) → IsPlain (pool_full packets)
pool_plain packets =
    either_plain (nat_le MAX_PACKETS packets) (too_large limit.Packets MAX_PACKETS) (too_large limit.Bytes MAX_POOL_BYTES)
    (record { status = inl (omega arith) }) (record { status = inl (omega arith) })

-- what is answered to the end of a world
end_plain : (end : End) (answer : Answer) → IsEndAnswer end answer → IsPlain answer
end_plain (ending.NoPacket event packet have) answer given = plain_as _ answer given (record { status = inl (omega arith) })
end_plain (ending.Forged event maker taker statement) answer given = plain_as _ answer given (record { status = inl (omega arith) })
end_plain (ending.Clash event maker taker made taken) answer given = plain_as _ answer given (record { status = inr (inr refl) })
end_plain (ending.PoolFull event packets bytes) answer given = plain_as (pool_full packets) answer given (pool_plain packets)
end_plain ending.NoMemory answer given = absurd given

-- what is answered to the world that events lead to, or to its end
outcome_plain : {S : Type 0} (telling : Telling) (setting : Setting S) (outcome : Result World End) (answer : Answer)
    → IsOutcomeAnswer telling setting outcome answer → IsPlain answer
outcome_plain telling setting (Ok w) answer given = plain_as _ answer given (record { status = inl (omega arith) })
outcome_plain telling setting (Err end) answer given = end_plain end answer given

-- what is answered to the schedule of a world
played_plain : {S : Type 0} (telling : Telling) (setting : Setting S) (events : Result (List Plain) ScheduleFault) (answer : Answer)
    → IsScheduleAnswer telling setting events answer → IsPlain answer
played_plain telling setting (Ok events) answer given = outcome_plain telling setting given.outcome answer given.given
played_plain telling setting (Err (schedule.Line line kind)) answer given = plain_as _ answer given (record { status = inl (omega arith) })
played_plain telling setting (Err schedule.TooMany) answer given = plain_as _ answer given (record { status = inl (omega arith) })
played_plain telling setting (Err schedule.NoMemory) answer given = plain_as _ answer given (record { status = inr (inl refl) })

-- what is answered to the text of such a schedule
text_plain : {S : Type 0} (telling : Telling) (setting : Setting S) (text : List ℕ) (answer : Answer) → IsTextAnswer telling setting text answer → IsPlain answer
text_plain telling setting text answer given = played_plain telling setting _ answer given

-- what `replay` or `trace` answers where hosts follow these rules
rules_plain : {S : Type 0} (telling : Telling) (rules : Rules S) (said : Said) (answer : Answer) → IsReplayAnswer telling rules said answer → IsPlain answer
rules_plain telling rules said answer (inl refused) = refused_plain said answer refused
rules_plain telling rules said answer (inr replayed) = text_plain telling _ said.texts.schedule answer replayed.given

-- what `replay` or `trace` answers with each protocol
replay_plain : (telling : Telling) (protocol : Protocol) (said : Said) (answer : Answer) → IsReplayOf telling protocol said answer → IsPlain answer
replay_plain telling Sum said answer given = rules_plain telling (sum_rules said.system.hosts said.system.linked) said answer given
replay_plain telling Flood said answer given = rules_plain telling (flood_rules said.system.hosts said.system.linked) said answer given
replay_plain telling Route said answer given = rules_plain telling (route_rules said.system.hosts said.system.linked) said answer given
replay_plain telling (Tree root) said answer given =
    rules_plain telling (tree_rules said.system.hosts said.system.linked root) said answer given
replay_plain telling (Machine tree) said answer given =
    rules_plain telling (machine_rules tree said.system.hosts said.system.linked) said answer given

-- what each command answers to what a document says
said_plain : (command : Command) (said : Said) (answer : Answer) → IsSaidAnswer command said answer → IsPlain answer
said_plain Bare said answer given = bare_plain said.system.protocol said answer refl given
said_plain Verify said answer given = verify_plain said.system.protocol said answer refl given
said_plain Check said answer given = check_plain said answer given
said_plain Plan said answer given = plan_plain said answer given
said_plain Replay said answer given = replay_plain tell.Report said.system.protocol said answer given
said_plain Trace said answer given = replay_plain tell.Trace said.system.protocol said answer given

-- what each command answers to a document, or to one that is refused
document_plain : (command : Command) (document : Result Said Refusal) (answer : Answer) → IsDocumentAnswer command document answer → IsPlain answer
document_plain command (Ok said) answer given = said_plain command said answer given
document_plain command (Err (AtKey key wrong)) answer given = plain_as _ answer given (record { status = inl (omega arith) })
document_plain command (Err (AtMachine (At line col wrong))) answer given = plain_as _ answer given (record { status = inl (omega arith) })
document_plain command (Err (AtMachine NoMemory)) answer given = absurd given

-- the status of an answer to a command is none of the outside
pub command_plain : (command : Command) (input : List ℕ) (answer : Answer) → IsCommandAnswer command input answer → IsPlain answer
command_plain command input answer given = document_plain command (answer_to (needs_of command) input) answer given

-- what is answered to the world that drawn events lead to, or to its end
drawn_plain : {S : Type 0} (drawing : Workload) (setting : Setting S) (events : List Plain) (outcome : Result World End) (answer : Answer)
    → drawn.IsOutcomeAnswer drawing setting events outcome answer → IsPlain answer
drawn_plain drawing setting events (Ok w) answer given = plain_as _ answer given (record { status = inl (omega arith) })
drawn_plain drawing setting events (Err end) answer given = end_plain end answer given

-- the status of an answer to a workload is none of the outside
pub workload_plain : (drawing : Workload) (answer : Answer) → drawn.IsWorkloadAnswer drawing answer → IsPlain answer
workload_plain drawing answer given =
    drawn_plain drawing given.setting given.given.drawn.events given.given.outcome answer given.given.given

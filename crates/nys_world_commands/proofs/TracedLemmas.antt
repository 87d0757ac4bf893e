-- With status 0 the text of `trace` ends with the text that `replay` answers.
use Rattle.std.proofs.Common.{◌≡◌, ℕ, ◌++◌, List, Result, Ok, Err, ap, inl, inr, refl, sym, ◌∙◌, arith}
use Rattle.std.proofs.lemmas.List.{append_assoc}
use Rattle.nys_answer.specs.declared.answer.Answer.{Answer}
use Rattle.nys_answer.specs.declared.status.Status.TheVariants.{Done}
use Rattle.nys_answer.specs.Codes.{code_of}
use Rattle.nys_bare.specs.declared.fault.ScheduleFault.{ScheduleFault}
use Rattle.nys_bare.specs.declared.fault.ScheduleFault.TheVariants as schedule
use Rattle.nys_printed.specs.Report.{report}
use Rattle.nys_report.specs.Trace.{trace}
use Rattle.nys_rules.specs.Events.{Plain}
use Rattle.nys_rules.specs.Happening.{HappenAll}
use Rattle.nys_rules.specs.World.{fresh_world, Setting, World}
use Rattle.nys_rules.specs.declared.notice.End.{End}
use Rattle.nys_scenario.specs.Document.{Said}
use Rattle.nys_source.specs.Rules.{Rules}
use Rattle.nys_trace_lines.specs.TraceLines.{injected_text, packets_text, takes_text}
use Rattle.nys_world_commands.proofs.PrintedLemmas.{end_fails, refusal_fails, status_of}
use Rattle.nys_world_commands.specs.Replayed.{IsEventsAnswer, IsOutcomeAnswer, IsReplayAnswer, IsScheduleAnswer}
use Rattle.nys_played.specs.Settings.{setting_by}
use Rattle.nys_world_commands.specs.declared.telling.Telling.TheVariants as tell

-- the text is some lines, then the text of an answer with status 0 of which this holds
pub record EndsWith (Replayed : Answer → Type 0) (text : List ℕ) : Type 0 where
  pub packets : List ℕ
  pub report : List ℕ
  pub replayed : Replayed (record { status = Done; text = report })
  pub text_is : text ≡ packets ++ report

-- what stands before the report in a trace
before_report : World → List ℕ
before_report w = packets_text w.pool ++ (injected_text w.injected ++ takes_text w.takes)

-- the report is the rest
trace_ends : {S : Type 0} (setting : Setting S) (w : World) → trace setting w ≡ before_report w ++ report setting w
unfolding trace before_report
trace_ends setting w =
    ap (λ rest. packets_text w.pool ++ rest) (sym (append_assoc (injected_text w.injected) (takes_text w.takes) (report setting w)))
    ∙ sym (append_assoc (packets_text w.pool) (injected_text w.injected ++ takes_text w.takes) (report setting w))

-- of the world that events lead to
events_end : {S : Type 0} (setting : Setting S) (events : List Plain) (answer : Answer)
    → IsEventsAnswer tell.Trace setting events answer → code_of answer.status ≡ 0
    → EndsWith (IsEventsAnswer tell.Report setting events) answer.text
events_end {S} setting events answer given done = by given.outcome given.happen given.given
  where
    by : (outcome : Result World End) → HappenAll setting (fresh_world setting) events outcome
        → IsOutcomeAnswer tell.Trace setting outcome answer → EndsWith (IsEventsAnswer tell.Report setting events) answer.text
    by (Ok w) happen is = record {
      packets = before_report w;
      report = report setting w;
      replayed = record { outcome = Ok w; happen = happen; given = refl };
      text_is = ap (λ (a : Answer). a.text) is ∙ trace_ends setting w;
    }
    by (Err end) happen is = absurd (end_fails end answer is done)

-- a fault of the schedule has another status
schedule_ends : {S : Type 0} (setting : Setting S) (read : Result (List Plain) ScheduleFault) (answer : Answer)
    → IsScheduleAnswer tell.Trace setting read answer → code_of answer.status ≡ 0
    → EndsWith (IsScheduleAnswer tell.Report setting read) answer.text
schedule_ends setting (Ok events) answer given done = events_end setting events answer given done
schedule_ends setting (Err (schedule.Line line kind)) answer given done =
    let s = status_of answer _ given in absurd (omega (arith, s, done))
schedule_ends setting (Err schedule.TooMany) answer given done =
    let s = status_of answer _ given in absurd (omega (arith, s, done))
schedule_ends setting (Err schedule.NoMemory) answer given done =
    let s = status_of answer _ given in absurd (omega (arith, s, done))

-- what `trace` answers with status 0
pub trace_ends_with : {S : Type 0} (rules : Rules S) (said : Said) (answer : Answer) → IsReplayAnswer tell.Trace rules said answer
    → code_of answer.status ≡ 0 → EndsWith (IsReplayAnswer tell.Report rules said) answer.text
trace_ends_with rules said answer (inl refused) done = absurd (refusal_fails said answer refused done)
trace_ends_with rules said answer (inr replayed) done =
    let ends = schedule_ends (setting_by rules replayed.graphs said.guarded.master said.guarded.liars) _ answer replayed.given done in
    record {
      packets = ends.packets;
      report = ends.report;
      replayed = inr (record { graphs = replayed.graphs; sound = replayed.sound; given = ends.replayed });
      text_is = ends.text_is;
    }

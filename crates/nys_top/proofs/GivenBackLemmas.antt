-- The run that `replay` prints can be printed and read: given back to `verify` it is a run.
use Rattle.std.proofs.Common.{◌≡◌, ℕ, ◌+◌, ◌≤◌, ◌<◌, Bool, true, false, List, [], ◌∷◌, ◌++◌, length, codes, Option, Some, None, Result, Ok, Err, append-nil, append_assoc, refl, ap, sym, subst, ◌∙◌, inl, inr, ◌⊎◌, arith}
use Rattle.std.specs.Prelude.{All, if◌then◌else◌, nat_le}
use Rattle.std.proofs.lemmas.List.Elements.{All-weaker}
use Rattle.nys_answer.specs.Codes.{code_of}
use Rattle.nys_answer.specs.Lines.{too_large}
use Rattle.nys_answer.specs.declared.limit.Limit.TheVariants.{Bytes, Packets}
use Rattle.nys_rules.specs.declared.limits.TheConstants.{MAX_PACKETS, MAX_POOL_BYTES}
use Rattle.nys_answer.specs.declared.answer.Answer.{Answer}
use Rattle.nys_answer.specs.declared.status.Status.TheVariants.{Done}
use Rattle.nys_bare.specs.declared.fault.ScheduleFault.{ScheduleFault}
use Rattle.nys_bare.specs.declared.fault.ScheduleFault.TheVariants as fault
use Rattle.nys_guard_commands.specs.Checked.{AreSound, IsRefused}
use Rattle.nys_guards.specs.declared.table.GuardGraph.{GuardGraph}
use Rattle.nys_meaning.specs.Machines.{machine_rules}
use Rattle.nys_native.specs.Floods.{flood_rules}
use Rattle.nys_route.specs.Routes.{route_rules}
use Rattle.nys_route.specs.Trees.{tree_rules}
use Rattle.nys_native.specs.Sums.{sum_rules}
use Rattle.nys_outcomes.proofs.RunLemmas.{runs_short}
use Rattle.nys_outcomes.specs.Runs as made
use Rattle.nys_printed.specs.Lines.{notes_text}
use Rattle.nys_printed.specs.Report.{guards_text, report}
use Rattle.nys_rules.specs.Events.{Plain}
use Rattle.nys_rules.specs.Happening.{HappenAll}
use Rattle.nys_rules.specs.Spelling.{printed_run}
use Rattle.nys_rules.specs.World.{fresh_world, Setting, World}
use Rattle.nys_rules.specs.declared.notice.End.{End}
use Rattle.nys_rules.specs.declared.notice.End.TheVariants.{Clash, Forged, NoMemory, NoPacket, PoolFull}
use Rattle.nys_runs.specs.HostLines.{hosts_text}
use Rattle.nys_scenario.proofs.Counted.{few_hosts}
use Rattle.nys_scenario.specs.Document.{answer_to, Said, System}
use Rattle.nys_scenario.specs.Keys.{Refusal}
use Rattle.nys_scenario.specs.Protocol.{Protocol}
use Rattle.nys_scenario.specs.Protocol.Protocol.{Sum, Flood, Route, Tree, Machine}
use Rattle.nys_schedule.specs.Schedules.{schedule}
use Rattle.nys_schedule.specs.declared.form.Form.TheVariants as form
use Rattle.nys_source.specs.RunText.{steps_text}
use Rattle.nys_source.specs.Rules.{Rules}
use Rattle.nys_source.specs.Runs.{after_run}
use Rattle.nys_source.specs.declared.step.Step.{Step}
use Rattle.nys_source.specs.declared.step.Step.TheVariants.{Input, Receive, Stop}
use Rattle.nys_source_commands.proofs.PrintedLemmas.{verifies_printed}
use Rattle.nys_source_commands.specs.Answers.{verdict, verify_answer}
use Rattle.nys_source_commands.specs.Judging.{HasPayload, IsPrintable}
use Rattle.nys_words.specs.declared.command.Command.TheVariants.{Replay, Verify}
use Rattle.nys_world_commands.specs.Promised.{IsReplayPromised}
use Rattle.nys_played.specs.Refusals.{IsEndAnswer, pool_full}
use Rattle.nys_world_commands.specs.Replayed.{IsEventsAnswer, IsOutcomeAnswer, IsReplayAnswer, IsReplayed, IsScheduleAnswer, IsTextAnswer}
use Rattle.nys_played.specs.Settings.{setting_by}
use Rattle.nys_world_commands.specs.declared.telling.Telling.TheVariants as tell
use Rattle.nys_top.proofs.PayloadLemmas.{schedule_hands}
use Rattle.nys_top.proofs.PromisedInputs.{input_promised}
use Rattle.nys_top.specs.Commands.{IsCommandAnswer, IsDocumentAnswer, IsReplayOf, needs_of, verify_of}
use Rattle.nys_top.specs.GivenBack.{BeginsWithARun, IsGivenBack, IsVerifiedAgain}
use Rattle.nys_top.specs.Promised.{IsPromisedDocument, IsPromisedOf}

-- a step with a payload
payload_as : (step : Step) → made.HasPayload step → HasPayload step
payload_as (Input h payload) has = (has.some, has.few, has.fit)
payload_as (Receive h p k) has = tt
payload_as (Stop h) has = tt

-- the printed run of a world that a schedule leads to can be printed and read
world_printable : {S : Type 0} (rules : Rules S) (said : Said) (graphs : List GuardGraph) (events : List Plain) (w : World) → rules.hosts ≤ 32
    → IsReplayPromised rules said → AreSound said graphs
    → schedule form.Replay rules.hosts said.guarded.liars said.texts.schedule ≡ Ok events
    → HappenAll (setting_by rules graphs said.guarded.master said.guarded.liars)
    (fresh_world (setting_by rules graphs said.guarded.master said.guarded.liars)) events (Ok w)
    → IsPrintable rules (printed_run (setting_by rules graphs said.guarded.master said.guarded.liars).scope w)
world_printable {S} rules said graphs events w few promised sound read happen =
    let short = runs_short setting few events w (schedule_hands form.Replay rules.hosts said.guarded.liars said.texts.schedule events read) happen in
    let steps = short.few in
    record {
      is_run = (promised graphs sound events read events [] w (sym (append-nil events)) happen).spelled.is_run;
      hosts = few;
      few = omega (arith, steps);
      payloads = All-weaker made.HasPayload HasPayload payload_as (printed_run setting.scope w) short.payloads;
    }
  where
    setting : Setting S
    setting = setting_by rules graphs said.guarded.master said.guarded.liars

-- a report begins with the lines of the printed run
report_begins : {S : Type 0} (setting : Setting S) (w : World)
    → (rest : List ℕ) × (report setting w ≡ codes "run\n" ++ (steps_text (printed_run setting.scope w) ++ (codes "hosts\n" ++ rest)))
unfolding report
report_begins setting w =
    let run = printed_run setting.scope w in
    let steps = steps_text run in
    let hosts = hosts_text setting.scope.rules (after_run setting.scope.rules run) 0 setting.scope.rules.hosts in
    let tail = codes "guards\n" ++ (guards_text setting w ++ (codes "notes\n" ++ (notes_text w.notes ++ codes "end\n"))) in (
      hosts ++ tail,
      append_assoc (codes "run\n") (steps ++ (codes "hosts\n" ++ hosts)) tail
          ∙ ap (λ t. codes "run\n" ++ t)
          (append_assoc steps (codes "hosts\n" ++ hosts) tail ∙ ap (λ t. steps ++ t) (append_assoc (codes "hosts\n") hosts tail)),
    )

-- a printed run that is printable is verified where it is given back
verified_again : {S : Type 0} (rules : Rules S) (said : Said) (run : List Step)
    → verify_of said.system.protocol said.system.hosts said.system.linked (steps_text run) ≡ verify_answer rules (steps_text run)
    → IsPrintable rules run → IsVerifiedAgain said run
verified_again rules said run is printable document other answer reads same lines given =
    subst (λ read. IsDocumentAnswer Verify read answer) reads given
    ∙ ap (λ (s : System). verify_of s.protocol s.hosts s.linked other.texts.run) same
    ∙ ap (verify_of said.system.protocol said.system.hosts said.system.linked) lines
    ∙ is
    ∙ verifies_printed rules run printable

-- an answer with another status is none that was done
not_done : (answer other : Answer) → answer ≡ other → answer.status ≡ Done → 1 ≤ code_of other.status → ⊥
not_done answer other same done high =
    let here : code_of other.status ≡ code_of answer.status = ap (λ (a : Answer). code_of a.status) (sym same) in
    let none : code_of answer.status ≡ 0 = ap code_of done in
    omega (arith, high, here, none)

-- a full pool has one status
pool_status : (packets : ℕ) → code_of (pool_full packets).status ≡ 10
pool_status packets = by (nat_le MAX_PACKETS packets)
  where
    by : (b : Bool) → code_of (if b then too_large Packets MAX_PACKETS else too_large Bytes MAX_POOL_BYTES).status ≡ 10
    by true = refl
    by false = refl

-- so is the answer to an end
end_not_done : (end : End) (answer : Answer) → IsEndAnswer end answer → answer.status ≡ Done → ⊥
end_not_done (NoPacket event packet have) answer given done = not_done answer _ given done (omega arith)
end_not_done (Forged event maker taker statement) answer given done = not_done answer _ given done (omega arith)
end_not_done (Clash event maker taker one taken) answer given done = not_done answer _ given done (omega arith)
end_not_done (PoolFull event packets bytes) answer given done =
    let status = pool_status packets in not_done answer (pool_full packets) given done (omega (arith, status))
end_not_done NoMemory answer given done = given

-- and to a refusal
refused_not_done : (said : Said) (answer : Answer) → IsRefused said answer → answer.status ≡ Done → ⊥
refused_not_done said answer (inl guards) done = not_done answer _ guards.here.text done (omega arith)
refused_not_done said answer (inr liars) done = not_done answer _ liars.liars.here.text done (omega arith)

-- what is replayed with these rules begins with such a run
rules_given_back : {S : Type 0} (rules : Rules S) (said : Said) (answer : Answer) → rules.hosts ≤ 32 → IsReplayPromised rules said
    → ((text : List ℕ) → verify_of said.system.protocol said.system.hosts said.system.linked text ≡ verify_answer rules text)
    → IsReplayAnswer tell.Report rules said answer → answer.status ≡ Done → BeginsWithARun said answer.text
rules_given_back rules said answer few promised is (inl refused) done = absurd (refused_not_done said answer refused done)
rules_given_back {S} rules said answer few promised is (inr replayed) done =
    by_schedule (schedule form.Replay rules.hosts said.guarded.liars said.texts.schedule) refl replayed.given
  where
    graphs : List GuardGraph
    graphs = replayed.graphs

    setting : Setting S
    setting = setting_by rules graphs said.guarded.master said.guarded.liars

    by_world : (events : List Plain) (w : World) → schedule form.Replay rules.hosts said.guarded.liars said.texts.schedule ≡ Ok events
        → HappenAll setting (fresh_world setting) events (Ok w) → answer ≡ record { status = Done; text = report setting w }
        → BeginsWithARun said answer.text
    by_world events w read happen given =
        let begins = report_begins setting w in
        let printable = world_printable rules said graphs events w few promised replayed.sound read happen in
        record {
          steps = printed_run setting.scope w;
          rest = begins.0;
          text_is = ap (λ (a : Answer). a.text) given ∙ begins.1;
          again = verified_again rules said (printed_run setting.scope w) (is (steps_text (printed_run setting.scope w))) printable;
        }

    by_outcome : (events : List Plain) → schedule form.Replay rules.hosts said.guarded.liars said.texts.schedule ≡ Ok events
        → (outcome : Result World End) → HappenAll setting (fresh_world setting) events outcome → IsOutcomeAnswer tell.Report setting outcome answer
        → BeginsWithARun said answer.text
    by_outcome events read (Ok w) happen given = by_world events w read happen given
    by_outcome events read (Err end) happen given = absurd (end_not_done end answer given done)

    by_schedule : (read : Result (List Plain) ScheduleFault) → schedule form.Replay rules.hosts said.guarded.liars said.texts.schedule ≡ read
        → IsScheduleAnswer tell.Report setting read answer → BeginsWithARun said answer.text
    by_schedule (Ok events) read given = by_outcome events read given.outcome given.happen given.given
    by_schedule (Err (fault.Line line wrong)) read given = absurd (not_done answer _ given done (omega arith))
    by_schedule (Err fault.TooMany) read given = absurd (not_done answer _ given done (omega arith))
    by_schedule (Err fault.NoMemory) read given = absurd (not_done answer _ given done (omega arith))

-- with each protocol
protocol_given_back : (protocol : Protocol) (said : Said) (answer : Answer) → said.system.hosts ≤ 32 → said.system.protocol ≡ protocol
    → IsPromisedOf protocol said → IsReplayOf tell.Report protocol said answer → answer.status ≡ Done → BeginsWithARun said answer.text
protocol_given_back Sum said answer few same promised given done =
    rules_given_back (sum_rules said.system.hosts said.system.linked) said answer few promised
    (λ text. ap (λ p. verify_of p said.system.hosts said.system.linked text) same) given done
protocol_given_back Flood said answer few same promised given done =
    rules_given_back (flood_rules said.system.hosts said.system.linked) said answer few promised
    (λ text. ap (λ p. verify_of p said.system.hosts said.system.linked text) same) given done
protocol_given_back Route said answer few same promised given done =
    rules_given_back (route_rules said.system.hosts said.system.linked) said answer few promised
    (λ text. ap (λ p. verify_of p said.system.hosts said.system.linked text) same) given done
protocol_given_back (Tree root) said answer few same promised given done =
    rules_given_back (tree_rules said.system.hosts said.system.linked root) said answer few promised
    (λ text. ap (λ p. verify_of p said.system.hosts said.system.linked text) same) given done
protocol_given_back (Machine tree) said answer few same promised given done =
    rules_given_back (machine_rules tree said.system.hosts said.system.linked) said answer few promised
    (λ text. ap (λ p. verify_of p said.system.hosts said.system.linked text) same) given done

-- each text that `replay` answers with status 0 begins so
pub given_back : (input : List ℕ) → IsGivenBack input
given_back input said answer read given done =
    protocol_given_back said.system.protocol said answer (few_hosts (needs_of Replay) input said read) refl
    (subst IsPromisedDocument read (input_promised input)) (subst (λ document. IsDocumentAnswer Replay document answer) read given) done

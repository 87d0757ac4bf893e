-- Where nothing that the words and the input say has a fault, and nothing outside fails, the call is done.
use Rattle.std.proofs.Common.{◌≡◌, ◌≢◌, ℕ, ◌<◌, ◌≤◌, ◌⊎◌, Bool, true, List, length, map, nat_lt, Option, Some, None, Result, Ok, Err, if◌then◌else◌, refl, sym, ap, subst, ◌∙◌, inl, inr, arith}
use Rattle.std.proofs.lemmas.Bool.{cases_eq, cases_lt, lt-ltb}
use Rattle.nys_answer.specs.declared.answer.Answer.{Answer}
use Rattle.nys_answer.specs.declared.limit.Limit.TheVariants as limit
use Rattle.nys_answer.specs.declared.status.Status.{Status}
use Rattle.nys_answer.specs.declared.status.Status.TheVariants.{Done, NotARun}
use Rattle.nys_answer.specs.Codes.{code_of}
use Rattle.nys_answer.specs.Lines.{too_large}
use Rattle.nys_bare.specs.Schedule.{bare_schedule}
use Rattle.nys_guard_commands.specs.Checked.{IsCheckAnswer}
use Rattle.nys_guard_commands.specs.Planned.{IsPlanAnswer}
use Rattle.nys_meaning.specs.Machines.{machine_rules}
use Rattle.nys_native.specs.Floods.{flood_rules}
use Rattle.nys_route.specs.Routes.{route_rules}
use Rattle.nys_route.specs.Trees.{tree_rules}
use Rattle.nys_native.specs.Sums.{sum_rules}
use Rattle.nys_native.specs.declared.total.Total.{Total}
use Rattle.nys_outside.specs.Input.{Input}
use Rattle.nys_rules.specs.Happening.{HappenAll}
use Rattle.nys_rules.specs.World.{fresh_world, Setting, World}
use Rattle.nys_rules.specs.declared.notice.End.{End}
use Rattle.nys_runs.specs.StepLines.{run_of}
use Rattle.nys_scenario.specs.Document.{answer_to, Said}
use Rattle.nys_scenario.specs.Protocol.{Protocol}
use Rattle.nys_scenario.specs.Protocol.Protocol.{Sum, Flood, Route, Tree, Machine}
use Rattle.nys_schedule.specs.Schedules.{schedule}
use Rattle.nys_schedule.specs.declared.form.Form.TheVariants as form
use Rattle.nys_source.specs.Rules.{Rules}
use Rattle.nys_source.specs.Source.{fresh}
use Rattle.nys_source.specs.declared.step.NotAStep.{NotAStep}
use Rattle.nys_source_commands.specs.Answers.{events_answer, first_refused, run_answer, steps_answer, verdict, verify_answer, bare_answer}
use Rattle.nys_words.specs.declared.command.Command.{Command}
use Rattle.nys_words.specs.declared.command.Command.TheVariants.{Bare, Verify, Check, Plan, Replay, Trace}
use Rattle.nys_words.specs.Words as spoken
use Rattle.nys_words.specs.declared.request.Request.TheVariants as ask
use Rattle.nys_words.specs.declared.request.Workload.{Workload}
use Rattle.nys_workload_command.specs.Answered.{IsSettingOf, IsWorkloadAnswer, WasDrawn}
use Rattle.nys_workload_command.specs.Answered as drawn
use Rattle.nys_world_commands.specs.Replayed.{IsEventsAnswer, IsOutcomeAnswer, IsReplayAnswer, IsScheduleAnswer, IsTextAnswer}
use Rattle.nys_world_commands.specs.declared.telling.Telling.{Telling}
use Rattle.nys_world_commands.specs.declared.telling.Telling.TheVariants as tell
use Rattle.nys_top.proofs.AnswerOnce.{whole_is}
use Rattle.nys_top.specs.Commands.{IsDocumentAnswer, IsReplayOf, IsSaidAnswer, needs_of}
use Rattle.nys_top.specs.Complete.{HasBareRun, HasBareRunOf, HasGuards, HasSteps, HasWorld, IsDone, IsPlayed, IsPlayedOf, Passes, PassesFrom, SaidPasses}
use Rattle.nys_top.specs.Outcomes.{AnswersInput, IsAnswer, IsAnswerBy, IsAnswered, IsTooLong}

-- the answer is none of a refusal
abbrev IsFine : Command → Answer → Type 0
IsFine command answer = (answer.status ≡ Done) ⊎ ((answer.status ≡ NotARun) × (command ≡ Verify))

-- a bare run is told with status 0
bare_done : {S : Type 0} (rules : Rules S) (text : List ℕ) (answer : Answer) → HasBareRun rules text → answer ≡ bare_answer rules text
    → answer.status ≡ Done
bare_done rules text answer has given =
    ap (λ (a : Answer). a.status)
    (given ∙ ap (events_answer rules) has.read ∙ ap (run_answer rules) has.runs)

-- with each protocol
bare_of_done : (protocol : Protocol) (said : Said) (answer : Answer) → said.system.protocol ≡ protocol
    → HasBareRunOf protocol said.system.hosts said.system.linked said.texts.schedule → IsSaidAnswer Bare said answer → answer.status ≡ Done
bare_of_done Sum said answer same has given =
    bare_done (sum_rules said.system.hosts said.system.linked) said.texts.schedule answer has (rw same at given)
bare_of_done Flood said answer same has given =
    bare_done (flood_rules said.system.hosts said.system.linked) said.texts.schedule answer has (rw same at given)
bare_of_done Route said answer same has given =
    bare_done (route_rules said.system.hosts said.system.linked) said.texts.schedule answer has (rw same at given)
bare_of_done (Tree root) said answer same has given =
    bare_done (tree_rules said.system.hosts said.system.linked root) said.texts.schedule answer has (rw same at given)
bare_of_done (Machine tree) said answer same has given =
    bare_done (machine_rules tree said.system.hosts said.system.linked) said.texts.schedule answer has (rw same at given)

-- steps are a run, or one is named that is none
verdict_done : (count : ℕ) (refused : Option (ℕ × NotAStep)) → IsFine Verify (verdict count refused)
verdict_done count None = inl refl
verdict_done count (Some refused) = inr (refl, refl)

-- a run text is judged
verify_done : {S : Type 0} (rules : Rules S) (text : List ℕ) (answer : Answer) → HasSteps text → answer ≡ verify_answer rules text
    → IsFine Verify answer
verify_done rules text answer has given =
    subst (IsFine Verify)
    (sym (given ∙ ap (steps_answer rules) has.read))
    (verdict_done (length has.steps) (first_refused rules 0 (fresh rules) has.steps))

-- with each protocol
verify_of_done : (protocol : Protocol) (said : Said) (answer : Answer) → said.system.protocol ≡ protocol → HasSteps said.texts.run
    → IsSaidAnswer Verify said answer → IsFine Verify answer
verify_of_done Sum said answer same has given =
    verify_done (sum_rules said.system.hosts said.system.linked) said.texts.run answer has (rw same at given)
verify_of_done Flood said answer same has given =
    verify_done (flood_rules said.system.hosts said.system.linked) said.texts.run answer has (rw same at given)
verify_of_done Route said answer same has given =
    verify_done (route_rules said.system.hosts said.system.linked) said.texts.run answer has (rw same at given)
verify_of_done (Tree root) said answer same has given =
    verify_done (tree_rules said.system.hosts said.system.linked root) said.texts.run answer has (rw same at given)
verify_of_done (Machine tree) said answer same has given =
    verify_done (machine_rules tree said.system.hosts said.system.linked) said.texts.run answer has (rw same at given)

-- events that lead to no end are answered with a report
events_done : {S : Type 0} (telling : Telling) (setting : Setting S) (text : List ℕ) (answer : Answer) (has : HasWorld setting text)
    → IsEventsAnswer telling setting has.events answer → answer.status ≡ Done
events_done {S} telling setting text answer has given = by given.outcome refl given.given
  where
    by : (outcome : Result World End) → given.outcome ≡ outcome → IsOutcomeAnswer telling setting outcome answer → answer.status ≡ Done
    by (Ok w) same is = ap (λ (a : Answer). a.status) is
    by (Err end) same is = absurd (has.endless end (subst (λ o. HappenAll setting (fresh_world setting) has.events o) same given.happen))

-- so is their text
text_done : {S : Type 0} (telling : Telling) (setting : Setting S) (text : List ℕ) (answer : Answer) → HasWorld setting text → IsTextAnswer telling setting text answer
    → answer.status ≡ Done
text_done telling setting text answer has given =
    events_done telling setting text answer has (subst (λ read. IsScheduleAnswer telling setting read answer) has.read given)

-- a replay is
replay_done : {S : Type 0} (telling : Telling) (rules : Rules S) (said : Said) (answer : Answer) → HasGuards said → IsPlayed rules said
    → IsReplayAnswer telling rules said answer → answer.status ≡ Done
replay_done telling rules said answer guards played (inl refused) = absurd (guards answer refused)
replay_done telling rules said answer guards played (inr replayed) =
    text_done telling _ said.texts.schedule answer (played replayed.graphs replayed.sound) replayed.given

-- with each protocol
replay_of_done : (telling : Telling) (protocol : Protocol) (said : Said) (answer : Answer) → HasGuards said → IsPlayedOf protocol said → IsReplayOf telling protocol said answer
    → answer.status ≡ Done
replay_of_done telling Sum said answer guards played given = replay_done telling (sum_rules said.system.hosts said.system.linked) said answer guards played given
replay_of_done telling Flood said answer guards played given = replay_done telling (flood_rules said.system.hosts said.system.linked) said answer guards played given
replay_of_done telling Route said answer guards played given = replay_done telling (route_rules said.system.hosts said.system.linked) said answer guards played given
replay_of_done telling (Tree root) said answer guards played given = replay_done telling (tree_rules said.system.hosts said.system.linked root) said answer guards played given
replay_of_done telling (Machine tree) said answer guards played given =
    replay_done telling (machine_rules tree said.system.hosts said.system.linked) said answer guards played given

-- guards that are not refused are good
check_done : (said : Said) (answer : Answer) → HasGuards said → IsCheckAnswer said answer → answer.status ≡ Done
check_done said answer guards (inl refused) = absurd (guards answer refused)
check_done said answer guards (inr good) = ap (λ (a : Answer). a.status) good.text

-- guards that are not refused are planned
plan_done : (said : Said) (answer : Answer) → SaidPasses Plan said → IsPlanAnswer said answer → answer.status ≡ Done
plan_done said answer passes (inl refused) = absurd (passes answer refused)
plan_done said answer passes (inr planned) = ap (λ (a : Answer). a.status) planned.text

-- each command is done
said_done : (command : Command) (said : Said) (answer : Answer) → SaidPasses command said → IsSaidAnswer command said answer → IsFine command answer
said_done Bare said answer passes given = inl (bare_of_done said.system.protocol said answer refl passes given)
said_done Verify said answer passes given = verify_of_done said.system.protocol said answer refl passes given
said_done Check said answer passes given = inl (check_done said answer passes given)
said_done Plan said answer passes given = inl (plan_done said answer passes given)
said_done Replay said answer passes given = inl (replay_of_done tell.Report said.system.protocol said answer passes.0 passes.1 given)
said_done Trace said answer passes given = inl (replay_of_done tell.Trace said.system.protocol said answer passes.0 passes.1 given)

-- the answer to an input that passes
input_done : (words : List (List ℕ)) (before : Input) (after : Option Input) (answer : Answer) (p : Passes words before)
    → IsAnswerBy (Ok (ask.Document p.command)) (Some before) after answer → IsFine p.command answer
input_done words before after answer p (inl answers) =
    let whole = whole_is before after answers.input answers.whole in
    let given = subst (λ input. IsDocumentAnswer p.command (answer_to (needs_of p.command) input) answer) (sym whole) answers.given in
    said_done p.command p.said answer p.passes (subst (λ document. IsDocumentAnswer p.command document answer) p.says given)
input_done words before after answer p (inr long) = let few = p.few in let many = long.long in absurd (omega (arith, few, many))

-- the status of such an answer
status_done : (words : List (List ℕ)) (before : Input) (status : ℕ) (answer : Answer) (p : Passes words before) → status ≡ code_of answer.status
    → IsFine p.command answer → IsDone words status
status_done words before status answer p is (inl done) = inl (is ∙ ap code_of done)
status_done words before status answer p is (inr none) = inr (inl (is ∙ ap code_of none.0, p.named ∙ ap (λ c. Ok (ask.Document c)) none.1))

-- a call that is answered is done
answered_done : (words : List (List ℕ)) (before : Input) (after : Option Input) (old new : Option (List ℕ)) (status : ℕ) → Passes words before
    → IsAnswered words (Some before) after old new status → IsDone words status
answered_done words before after old new status p answered =
    status_done words before status answered.answer p answered.status_is
    (input_done words before after answered.answer p
    (subst (λ named. IsAnswerBy named (Some before) after answered.answer) p.named answered.given))

-- a workload whose events lead to no end is answered with its summary
workload_done : (drawing : Workload) (answer : Answer)
    → ((setting : Setting Total) → IsSettingOf drawing.hosts setting → (end : End) → WasDrawn setting drawing.seed drawing.hosts drawing.events (Err end) → ⊥)
    → IsWorkloadAnswer drawing answer → answer.status ≡ Done
workload_done drawing answer endless given = by given.given.outcome refl given.given.given
  where
    by : (outcome : Result World End) → given.given.outcome ≡ outcome
        → drawn.IsOutcomeAnswer drawing given.setting given.given.drawn.events outcome answer → answer.status ≡ Done
    by (Ok w) same is = ap (λ (a : Answer). a.status) is
    by (Err end) same is =
        absurd (endless given.setting given.setting_is end (subst (λ o. WasDrawn given.setting drawing.seed drawing.hosts drawing.events o) same given.given.drawn))

-- a call that is answered is done, where its document passes or its workload does
passed_done : (words : List (List ℕ)) (told after : Option Input) (old new : Option (List ℕ)) (status : ℕ) → PassesFrom words told
    → IsAnswered words told after old new status → IsDone words status
passed_done words None after old new status (inl p) answered = absurd p
passed_done words (Some before) after old new status (inl p) answered = answered_done words before after old new status p answered
passed_done words told after old new status (inr p) answered =
    let given = subst (λ named. IsAnswerBy named told after answered.answer) p.named answered.given in
    inl (answered.status_is ∙ ap code_of (workload_done p.drawing answered.answer p.endless given))

-- a call is done where nothing that it reads or writes fails
pub complete : (words : List (List ℕ)) (told after : Option Input) (old new : Option (List ℕ)) (status : ℕ) (ReadFails WriteFails : Type 0)
    → ((status ≤ 10) ⊎ (status ≡ 15) → IsAnswered words told after old new status) → (status ≡ 11 → ReadFails) → (status ≡ 12 → WriteFails)
    → (status ≤ 15) × (status ≢ 13) → PassesFrom words told → (ReadFails → ⊥) → (WriteFails → ⊥) → IsDone words status
complete words told after old new status ReadFails WriteFails answered read write never passes source sink = elim (cases_lt status 11) [
  | inl low ↦ passed_done words told after old new status passes (answered (inl (omega (arith, low))))
  | inr high ↦ elim (cases_eq status 11) [
    | inl is ↦ absurd (source (read is))
    | inr other ↦ elim (cases_eq status 12) [
      | inl is ↦ absurd (sink (write is))
      | inr another ↦ elim (cases_eq status 14) [
        | inl is ↦ inr (inr is)
        | inr last ↦
            let most = never.0 in
            let none = never.1 in
            passed_done words told after old new status passes (answered (inr (omega (arith, high, other, another, last, most, none))))
      ]
    ]
  ]
]

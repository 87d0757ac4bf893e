-- The printed run of a world is short, and its inputs have payloads: each step is of an entry of a log.
use Rattle.std.proofs.Common.{◌≡◌, ℕ, zero, suc, ◌+◌, ◌*◌, ◌<◌, ◌≤◌, ◌&&◌, ◌||◌, ◌==◌, Bool, true, false, not, nat_lt, ltb-true, ℤ, List, [], ◌∷◌, ◌++◌, length, map, All, Option, Some, None, Ok, Err, Result, refl, ap, sym, subst, ◌∙◌, inl, inr, ◌⊎◌, arith}
use Rattle.std.specs.Prelude.{filter, fold, if◌then◌else◌, slice_get}
use Rattle.std.specs.List.{list_any, range_with_len}
use Rattle.std.proofs.lemmas.Bool.{cases_eq, cases_lt, ltb-false}
use Rattle.std.proofs.lemmas.List.{length-append, length-map}
use Rattle.std.proofs.lemmas.List.Elements.{All-append, All-cons, All-head, All-nil, All-push, All-tail}
use Rattle.nys_agreement.proofs.TableLemmas.{put_at_case, put_case, put_here, put_there}
use Rattle.nys_agreement.specs.Alone.{step_of}
use Rattle.nys_bytes.specs.declared.content.Content.{Content}
use Rattle.nys_bytes.specs.declared.content.Content.TheVariants.{External, Message}
use Rattle.nys_laws.proofs.EventKeeping.{ActsAs, happens_by, IsAccepted, IsHanded, WorldsKeepBy}
use Rattle.nys_laws.proofs.GrownLemmas.{each_given, with_step}
use Rattle.nys_rules.proofs.CertificateLemmas.{both_true}
use Rattle.nys_rules.proofs.DueLemmas.{due_enabled}
use Rattle.nys_rules.proofs.SearchLemmas.{or_none}
use Rattle.nys_rules.specs.Dropping.{accepted, unless, untagged}
use Rattle.nys_rules.specs.Events.{Plain}
use Rattle.nys_rules.specs.Events.Plain.{Input, Deliver, Flush, Exchange, Ask, Bytes, Say, Bundle, Steal, Wedge, Decide, Retire, Open}
use Rattle.nys_rules.specs.Happening.{HappenAll, Happens, Then}
use Rattle.nys_rules.specs.Olympus.{after_decision, decision, Decides, hosts_of, is_settled, misplaced_testimony, olympus_verdict, OlympusView, open_decision, Reported, reports_for, supported, supported_after, supported_from, supports, testified, testified_body, testimony_drop, with_decision, with_report}
use Rattle.nys_rules.specs.Asking.{questions}
use Rattle.nys_rules.specs.Handling.{acts_by, with_input}
use Rattle.nys_rules.specs.Noting.{noted}
use Rattle.nys_rules.specs.Packets.{Acts, nothing}
use Rattle.nys_rules.specs.Taking.{acts_of, taken}
use Rattle.nys_rules.specs.Scope.{olympus, Scope}
use Rattle.nys_rules.specs.Spelling.{printed_run}
use Rattle.nys_rules.specs.View.{View}
use Rattle.nys_rules.specs.World.{fresh_world, Setting, with_decided, with_grown, with_slot, World}
use Rattle.nys_rules.specs.declared.cause.DropCause.{DropCause}
use Rattle.nys_rules.specs.declared.cause.DropCause.TheVariants as cause
use Rattle.nys_rules.specs.declared.decision.Decision.{Decision}
use Rattle.nys_rules.specs.declared.decision.Decision.TheVariants as decide
use Rattle.nys_rules.specs.declared.notice.End.{End}
use Rattle.nys_source.specs.Tables.{put}
use Rattle.nys_source.specs.declared.step.Step.{Step}
use Rattle.nys_source.specs.declared.step.Step.TheVariants.{Stop}
use Rattle.nys_stmt.specs.Ranges.{IsPayload}
use Rattle.nys_stmt.specs.declared.records.Record.{Record}
use Rattle.nys_stmt.specs.declared.statement.Body.{Body}
use Rattle.nys_stmt.specs.declared.statement.Body.TheVariants as body
use Rattle.nys_stmt.specs.declared.statement.FilledKind.TheVariants as kind
use Rattle.nys_stmt.specs.declared.tags.Tags.{Tags}
use Rattle.nys_outcomes.proofs.FallLemmas.{total_less}
use Rattle.nys_outcomes.proofs.HoldLemmas.{first_holds, Holds, input_holds, IsWell, noted_holds, taken_holds, well_read}
use Rattle.nys_outcomes.proofs.ReadLemmas.{HasCome, IsBodyRead, IsRecordRead, whole_comes}
use Rattle.nys_outcomes.specs.Runs.{HandsPayload, HasPayload, RunsShort}
use Rattle.nys_outcomes.specs.Weight.{total}

-- ---- the Olympus

-- what it keeps: contents are well, only hosts are reported on and decided, no log is longer than 1,024, and until it is
-- decided a log ends at its base
pub record Keeps (hosts : ℕ) (o : OlympusView) : Type 0 where
  pub reports : (h slot : ℕ) → All (λ (r : Reported). IsWell r.content) (o.reports h slot)
  pub silent : (h slot : ℕ) → (hosts ≤ h) ⊎ (1024 ≤ slot) → o.reports h slot ≡ []
  pub decided : (h : ℕ) → All IsWell (o.decided h)
  pub none : (h : ℕ) → hosts ≤ h → o.decided h ≡ []
  pub short : (h : ℕ) → length (o.decided h) ≤ 1024
  pub ends : (h : ℕ) → o.decided_now h ≡ false → length (o.decided h) ≡ o.base h

-- a content that is supported was reported
supported_well : (t : ℕ) (before coming : List Reported) (c : Content) → All (λ (r : Reported). IsWell r.content) coming
    → supported_after t before coming ≡ Some c → IsWell c
supported_well t before [] c all e = absurd (cc)
supported_well t before (r ∷ coming) c all e = by (nat_lt t (reports_for r.content (before ++ r ∷ []))) e
    (λ rest. supported_well t (before ++ r ∷ []) coming c (All-tail (λ (x : Reported). IsWell x.content) r coming all) rest)
  where
    by : (b : Bool) → (if b then Some r.content else supported_after t (before ++ r ∷ []) coming) ≡ Some c
        → (supported_after t (before ++ r ∷ []) coming ≡ Some c → IsWell c) → IsWell c
    by true is rest = let same : r.content ≡ c = cc in subst IsWell same (All-head (λ (x : Reported). IsWell x.content) r coming all)
    by false is rest = rest is

-- contents that support slots: well, and in slots below 1,024 of a host
record Supports {S : Type 0} (scope : Scope S) (o : OlympusView) (h slot : ℕ) (contents : List Content) : Type 0 where
  well : All IsWell contents
  few : slot ≤ 1024 → slot + length contents ≤ 1024
  none : scope.rules.hosts ≤ h → contents ≡ []

-- a content that supports a slot is well, and its slot is one of a host below 1,024
support_at : {S : Type 0} (scope : Scope S) (o : OlympusView) (h slot : ℕ) (c : Content) → Keeps scope.rules.hosts o → supported scope o h slot ≡ Some c
    → (h < scope.rules.hosts) × (slot < 1024) × IsWell c
unfolding supported
support_at scope o h slot c k e = (
  elim (cases_lt h scope.rules.hosts) [
    | inl low ↦ low
    | inr past ↦ absurd (let no = sym (ap (supported_after (scope.t o.epoch h) []) (k.silent h slot (inl past))) ∙ e in cc)
  ],
  elim (cases_lt slot 1024) [
    | inl low ↦ low
    | inr past ↦ absurd (let no = sym (ap (supported_after (scope.t o.epoch h) []) (k.silent h slot (inr past))) ∙ e in cc)
  ],
  supported_well (scope.t o.epoch h) [] (o.reports h slot) c (k.reports h slot) e,
)

-- so are those from each slot on
supports_from : {S : Type 0} (scope : Scope S) (n : ℕ) (o : OlympusView) (h slot : ℕ) → Keeps scope.rules.hosts o
    → Supports scope o h slot (supported_from n scope o h slot)
supports_from scope zero o h slot k = record { well = All-nil IsWell; few = λ low. omega (arith, low); none = λ past. refl }
supports_from {S} scope (suc n) o h slot k = by (supported scope o h slot) refl (supports_from scope n o h (slot + 1) k)
  where
    Rest : List Content → Type 0
    Rest rest = Supports scope o h (slot + 1) rest

    by : (found : Option Content) → supported scope o h slot ≡ found → Rest (supported_from n scope o h (slot + 1))
        → Supports scope o h slot (supported_from (suc n) scope o h slot)
    by None is rest = rw is (record { well = All-nil IsWell; few = λ low. omega (arith, low); none = λ past. refl })
    by (Some c) is rest =
        let at = support_at scope o h slot c k is in
        rw is (record {
          well = All-cons IsWell c (supported_from n scope o h (slot + 1)) at.2 rest.well;
          few = λ low. let below = at.1 in let more = rest.few (omega (arith, below)) in omega (arith, more);
          none = λ past. let low = at.0 in absurd (omega (arith, low, past));
        })

-- the Olympus with a log decided keeps that
decision_keeps : {S : Type 0} (scope : Scope S) (h : ℕ) (o : OlympusView) → o.decided_now h ≡ false → Keeps scope.rules.hosts o
    → Keeps scope.rules.hosts (with_decision scope h o)
unfolding supports
decision_keeps {S} scope h o undecided k = record {
  reports = k.reports;
  silent = k.silent;
  decided = λ x. put_case (All IsWell) o.decided h (o.decided h ++ more) x (λ e. All-append IsWell (o.decided h) more (k.decided h) here.well) (λ ne. k.decided x);
  none = λ x past. put_case (λ (l : List Content). l ≡ []) o.decided h (o.decided h ++ more) x
      (λ e. let high = subst (λ y. scope.rules.hosts ≤ y) e past in ap (λ l. l ++ more) (k.none h high) ∙ here.none high) (λ ne. k.none x past);
  short = λ x. put_case (λ (l : List Content). length l ≤ 1024) o.decided h (o.decided h ++ more) x
      (λ e.
      let longer = length-append (o.decided h) more in
      let base = k.ends h undecided in
      let low = k.short h in
      let few = here.few (omega (arith, base, low)) in
      omega (arith, longer, base, few)) (λ ne. k.short x);
  ends = λ x now. elim (cases_eq x h) [
    | inl e ↦ absurd (let is = put_here o.decided_now h true in let no = sym is ∙ subst (λ y. put o.decided_now h true y ≡ false) e now in cc)
    | inr ne ↦
        ap length (put_there o.decided h (o.decided h ++ more) x ne)
        ∙ k.ends x (sym (put_there o.decided_now h true x ne) ∙ now)
  ];
}
  where
    more : List Content
    more = supported_from 1024 scope o h (o.base h)

    here : Supports scope o h (o.base h) more
    here = supports_from scope 1024 o h (o.base h) k

-- a decision is made of a host that isn't decided yet
decides_undecided : {S : Type 0} (scope : Scope S) (o : OlympusView) (h len : ℕ) → decision scope o h ≡ decide.Decided len → o.decided_now h ≡ false
unfolding decision
decides_undecided scope o h len e = by o.wedged (o.decided_now h) (o.retired h) refl e
  where
    by : (wedged now gone : Bool) → o.decided_now h ≡ now
        → (if not wedged then decide.NotWedged else if now || gone then decide.Settled else open_decision scope o h) ≡ decide.Decided len
        → o.decided_now h ≡ false
    by false now gone is d = absurd (cc)
    by true true gone is d = absurd (cc)
    by true false gone is d = is

-- whatever it answers
decides_keep : {S : Type 0} (scope : Scope S) (o : OlympusView) (h : ℕ) (after : OlympusView) (answer : Decision) → Decides scope o h after answer
    → Keeps scope.rules.hosts o → Keeps scope.rules.hosts after
decides_keep {S} scope o h after answer d k = subst (Keeps scope.rules.hosts) (sym d.after_is) (by answer d.told)
  where
    by : (said : Decision) → said ≡ decision scope o h → Keeps scope.rules.hosts (after_decision scope o h said)
    by (decide.Decided len) told = decision_keeps scope h o (decides_undecided scope o h len (sym told)) k
    by (decide.Undecided supported frozen) told = k
    by decide.NotWedged told = k
    by decide.Settled told = k

-- a report joins those of its slot
report_well : (c : Content) (reports : List Reported) (m : Tags) → IsWell c → All (λ (r : Reported). IsWell r.content) reports
    → All (λ (r : Reported). IsWell r.content) (with_report c reports m)
report_well c reports m well all = by (list_any (λ r. r.guard == m.maker) reports)
  where
    by : (b : Bool) → All (λ (r : Reported). IsWell r.content) (if b then reports else reports ++ record { guard = m.maker; content = c } ∷ [])
    by true = all
    by false = All-push (λ (r : Reported). IsWell r.content) reports (record { guard = m.maker; content = c }) all well

-- so do those of several makers
reports_well : (c : Content) (makers : List Tags) (reports : List Reported) → IsWell c → All (λ (r : Reported). IsWell r.content) reports
    → All (λ (r : Reported). IsWell r.content) (fold (with_report c) reports makers)
reports_well c [] reports well all = all
reports_well c (m ∷ makers) reports well all = reports_well c makers (with_report c reports m) well (report_well c reports m well all)

-- where no cause is given the test passed, and the tests after it gave none
passed : (b : Bool) (drop_cause : DropCause) (rest : Option DropCause) → unless b drop_cause rest ≡ None → (b ≡ true) × (rest ≡ None)
passed true drop_cause rest e = (refl, e)
passed false drop_cause rest e = absurd (cc)

-- a report is of a host
reported_host : {S : Type 0} (scope : Scope S) (o : OlympusView) (e h : ℕ) (rest : Option DropCause) → testimony_drop scope o e h rest ≡ None
    → h < scope.rules.hosts
reported_host scope o e h rest is =
    let epoch = passed (e == o.epoch) cause.Epoch _ is in
    let ending = passed o.wedged cause.Wedged _ epoch.1 in
    let host = passed (nat_lt h scope.rules.hosts && not (is_settled o h)) cause.NotGuard rest ending.1 in
    ltb-true h scope.rules.hosts (both_true (nat_lt h scope.rules.hosts) (not (is_settled o h)) host.0).0

-- each kind of record
testified_keeps : {S : Type 0} (scope : Scope S) (e : ℕ) (said : Body) (makers : List Tags) (o : OlympusView)
    → misplaced_testimony scope o e said ≡ None → IsBodyRead said → Keeps scope.rules.hosts o → Keeps scope.rules.hosts (testified_body said makers o)
testified_keeps scope e (body.Filled kind.Offer h slot c) makers o is well k = k
testified_keeps scope e (body.Filled kind.Order h slot c) makers o is well k = k
testified_keeps scope e (body.Filled kind.Deliver h slot c) makers o is well k = k
testified_keeps scope e (body.Filled kind.Inherit h slot c) makers o is well k = k
testified_keeps scope e (body.Filled kind.Report h slot c) makers o is well k =
    let host = reported_host scope o e h _ is in
    let low = well.0 in
    let new = fold (with_report c) (o.reports h slot) makers in
    record {
      reports = λ x s. put_at_case (All (λ (r : Reported). IsWell r.content)) o.reports h slot new x s
          (λ a b. reports_well c makers (o.reports h slot) (well_read c well.1) (k.reports h slot)) (λ other. k.reports x s);
      silent = λ x s past. put_at_case (λ (l : List Reported). l ≡ []) o.reports h slot new x s
          (λ a b. absurd (elim past [
            | inl high ↦ omega (arith, host, high, a)
            | inr late ↦ omega (arith, low, late, b)
          ])) (λ other. k.silent x s past);
      decided = k.decided;
      none = k.none;
      short = k.short;
      ends = k.ends;
    }
testified_keeps scope e (body.Attest p h n payload) makers o is well k = k
testified_keeps scope e (body.Ask h slot) makers o is well k = k
testified_keeps scope e body.Wedge makers o is well k = k
testified_keeps scope e (body.Frozen h slot) makers o is well k =
    record { reports = k.reports; silent = k.silent; decided = k.decided; none = k.none; short = k.short; ends = k.ends }
testified_keeps scope e (body.Open lengths) makers o is well k = k

-- a record that it hears
hears_keeps : {S : Type 0} (scope : Scope S) (o : OlympusView) (r : Record) → olympus_verdict scope o r ≡ None → IsBodyRead r.statement.body
    → Keeps scope.rules.hosts o → Keeps scope.rules.hosts (testified scope o r)
unfolding olympus_verdict testified
hears_keeps scope o r none read k =
    testified_keeps scope r.statement.epoch r.statement.body (accepted scope r.statement.epoch olympus r) o
    (or_none (misplaced_testimony scope o r.statement.epoch r.statement.body) (untagged (accepted scope r.statement.epoch olympus r)) none).0 read k

-- ---- the run

-- what is kept of the run: it has no more steps than the longest logs entries, no log more than 1,024, and payloads
pub record IsRunSoFar (longest : ℕ → ℕ) (run : List Step) : Type 0 where
  pub few : length run ≤ total 32 longest
  pub short : (h : ℕ) → longest h ≤ 1024
  pub payloads : All HasPayload run

-- the step of a content
step_well : (h : ℕ) (c : Content) → IsWell c → HasPayload (step_of h c)
step_well h (External payload) well = well
step_well h (Message p k payload) well = tt

-- one slot of a host
slot_runs : (h slot : ℕ) (c : Content) (w : World) → h < 32 → slot < 1024 → IsWell c → IsRunSoFar w.longest w.run
    → IsRunSoFar (with_slot h slot (Some c) w).longest (with_slot h slot (Some c) w).run
slot_runs h slot c w low room well k = by (nat_lt slot (w.longest h)) refl
  where
    longer : World
    longer = record w { longest = put w.longest h (slot + 1); run = w.run ++ step_of h c ∷ [] }

    by : (b : Bool) → nat_lt slot (w.longest h) ≡ b → IsRunSoFar (if b then w else longer).longest (if b then w else longer).run
    by true is = k
    by false is =
        let past = ltb-false slot (w.longest h) is in
        let here : put w.longest h (slot + 1) h ≡ slot + 1 = put_here w.longest h (slot + 1) in
        let more : total 32 w.longest < total 32 (put w.longest h (slot + 1)) =
        total_less 32 w.longest (put w.longest h (slot + 1)) h low (omega (arith, here, past))
        (λ x below. put_case (λ n. w.longest x ≤ n) w.longest h (slot + 1) x
        (λ e. let same = ap w.longest e in omega (arith, same, past)) (λ ne. omega arith)) in
        let steps = length-append w.run (step_of h c ∷ []) in
        let before = k.few in
        record {
          few = omega (arith, more, steps, before);
          short = λ x. put_case (λ n. n ≤ 1024) w.longest h (slot + 1) x (λ e. omega (arith, room)) (λ ne. k.short x);
          payloads = All-push HasPayload w.run (step_of h c) k.payloads (step_well h c well);
        }

-- an entry that is there
there_below : {A : Type 0} (xs : List A) (k : ℕ) (x : A) → slice_get xs k ≡ Some x → k < length xs
there_below [] k x e = absurd (cc)
there_below (y ∷ xs) zero x e = omega arith
there_below (y ∷ xs) (suc k) x e = let low = there_below xs k x e in omega (arith, low)

-- what holds of all holds of it
there_well : (xs : List Content) (k : ℕ) (x : Content) → All IsWell xs → slice_get xs k ≡ Some x → IsWell x
there_well [] k x all e = absurd (cc)
there_well (y ∷ xs) zero x all e = let same : y ≡ x = cc in subst IsWell same (All-head IsWell y xs all)
there_well (y ∷ xs) (suc k) x all e = there_well xs k x (All-tail IsWell y xs all) e

-- slots that a node logged
grown_runs : (hosts : ℕ) (v : View) (grew : List (ℕ × ℕ)) (w : World) → hosts ≤ 32 → Holds hosts v → IsRunSoFar w.longest w.run
    → IsRunSoFar (with_grown v grew w).longest (with_grown v grew w).run
grown_runs hosts v [] w few holds k = k
grown_runs hosts v (x ∷ grew) w few holds k = grown_runs hosts v grew (with_slot x.0 x.1 (slice_get (v.logs x.0) x.1) w) few holds (by (slice_get (v.logs x.0) x.1) refl)
  where
    by : (found : Option Content) → slice_get (v.logs x.0) x.1 ≡ found
        → IsRunSoFar (with_slot x.0 x.1 found w).longest (with_slot x.0 x.1 found w).run
    by None is = k
    by (Some c) is =
        let below = there_below (v.logs x.0) x.1 c is in
        let short = holds.short x.0 in
        slot_runs x.0 x.1 c w (host c is) (omega (arith, below, short)) (there_well (v.logs x.0) x.1 c (holds.logs x.0) is) k
      where
        host : (d : Content) → slice_get (v.logs x.0) x.1 ≡ Some d → x.0 < 32
        host d there = elim (cases_lt x.0 hosts) [
          | inl low ↦ omega (arith, low, few)
          | inr past ↦ absurd (let no = sym (ap (λ l. slice_get l x.1) (holds.none x.0 past)) ∙ there in cc)
        ]

-- slots that were decided, from one on
decided_runs : (h slot : ℕ) (contents : List Content) (w : World) → h < 32 → slot + length contents ≤ 1024 → All IsWell contents
    → IsRunSoFar w.longest w.run → IsRunSoFar (with_decided h slot contents w).longest (with_decided h slot contents w).run
decided_runs h slot [] w low few all k = k
decided_runs h slot (c ∷ contents) w low few all k =
    decided_runs h (slot + 1) contents (with_slot h slot (Some c) w) low (omega (arith, few)) (All-tail IsWell c contents all)
    (slot_runs h slot c w low (omega (arith, few)) (All-head IsWell c contents all) k)

-- the same of a host, or of what is none
log_runs : (hosts h : ℕ) (o : OlympusView) (w : World) → hosts ≤ 32 → Keeps hosts o → IsRunSoFar w.longest w.run
    → IsRunSoFar (with_decided h 0 (o.decided h) w).longest (with_decided h 0 (o.decided h) w).run
log_runs hosts h o w few keeps k = elim (cases_lt h hosts) [
  | inl low ↦ let short = keeps.short h in decided_runs h 0 (o.decided h) w (omega (arith, low, few)) (omega (arith, short)) (keeps.decided h) k
  | inr past ↦ subst (λ l. IsRunSoFar (with_decided h 0 l w).longest (with_decided h 0 l w).run) (sym (keeps.none h past)) k
]

-- ---- worlds

-- all that is kept of a world
record IsKept (hosts : ℕ) (w : World) : Type 0 where
  nodes : (g : ℕ) → Holds hosts (w.nodes g)
  top : Keeps hosts w.olympus
  run : IsRunSoFar w.longest w.run

-- a step of a node
step_kept : (hosts g : ℕ) (v : View) (acts : Acts) (w : World) → hosts ≤ 32 → Holds hosts v → IsKept hosts w → IsKept hosts (with_step g v acts w)
step_kept hosts g v acts w few holds k = record {
  nodes = λ x. put_case (Holds hosts) w.nodes g v x (λ e. holds) (λ ne. k.nodes x);
  top = k.top;
  run = grown_runs hosts v acts.grew w few holds k.run;
}

-- the node that acts holds what the world has of it
acting_holds : {S : Type 0} (setting : Setting S) (hosts : ℕ) (w : World) (g : ℕ) (v : View) → ActsAs setting w g v → IsKept hosts w → Holds hosts v
acting_holds setting hosts w g v acts k = subst (Holds hosts) acts.view (k.nodes g)

-- what was accepted was read
accepted_read : {S : Type 0} (setting : Setting S) (w : World) (taker : ℕ) (r : Record) → IsAccepted setting w taker r → IsBodyRead r.statement.body
accepted_read setting w taker r a = subst (HasCome IsRecordRead) a.read (whole_comes a.frame)

-- an Olympus that only knows that its epoch ends, or that a host is given up
wedged_keeps : (hosts : ℕ) (o : OlympusView) (wedged : Bool) (retired : ℕ → Bool) → Keeps hosts o → Keeps hosts (record o { wedged = wedged; retired = retired })
wedged_keeps hosts o wedged retired k =
    record { reports = k.reports; silent = k.silent; decided = k.decided; none = k.none; short = k.short; ends = k.ends }

-- each elementary step keeps it
keeps_all : {S : Type 0} (setting : Setting S) → setting.scope.rules.hosts ≤ 32
    → WorldsKeepBy setting (λ g payload. IsPayload payload) (IsKept setting.scope.rules.hosts)
keeps_all {S} setting few = record {
  rules = λ w g v rule acts due k.
      step_kept hosts g (taken setting.scope v rule) (acts_of setting.scope v rule) w few (taken_holds setting.scope v rule (due_enabled setting.scope v rule due).1 (acting_holds setting hosts w g v acts k)) k;
  records = λ w g v r acts host none accepted k.
      step_kept hosts g (noted setting.scope v r) (acts_by setting.scope v r) w few (noted_holds setting.scope v r none (accepted_read setting w v.me r accepted) (acting_holds setting hosts w g v acts k)) k;
  inputs = λ w g v payload may acts room k.
      step_kept hosts g (with_input payload v) nothing w few (input_holds hosts payload v may (acting_holds setting hosts w g v acts k)) k;
  asking = λ w g v acts k. step_kept hosts g v (questions setting.scope v) w few (acting_holds setting hosts w g v acts k) k;
  hears = λ w r none accepted k. record {
    nodes = k.nodes;
    top = hears_keeps setting.scope w.olympus r none (accepted_read setting w olympus r accepted) k.top;
    run = k.run;
  };
  wedges = λ w none k. record { nodes = k.nodes; top = wedged_keeps hosts w.olympus true w.olympus.retired k.top; run = k.run };
  decides = λ w h after answer d k.
      let top = decides_keep setting.scope w.olympus h after answer d k.top in
      record { nodes = k.nodes; top = top; run = log_runs hosts h after (record w { olympus = after }) few top k.run };
  retires = λ w h done k. record {
    nodes = k.nodes;
    top = wedged_keeps hosts w.olympus w.olympus.wedged (put w.olympus.retired h true) k.top;
    run = k.run;
  };
  epochs = λ w epoch done k. record {
    nodes = k.nodes;
    top = record {
      reports = λ h slot. All-nil (λ (r : Reported). IsWell r.content);
      silent = λ h slot past. refl;
      decided = k.top.decided;
      none = k.top.none;
      short = k.top.short;
      ends = λ h now. refl;
    };
    run = k.run;
  };
  packets = λ w event packets brings k. record { nodes = k.nodes; top = k.top; run = k.run };
  told = λ w events delivered injected takes notes k. record { nodes = k.nodes; top = k.top; run = k.run };
}
  where
    hosts : ℕ
    hosts = setting.scope.rules.hosts

-- nothing was handed to anyone but what an input hands
handed_payload : (event : Plain) (g : ℕ) (payload : List ℤ) → HandsPayload event → IsHanded event g payload → IsPayload payload
handed_payload (Input h x) g payload hands is = subst IsPayload (sym is.1) hands
handed_payload (Deliver k) g payload hands is = absurd is
handed_payload Flush g payload hands is = absurd is
handed_payload Exchange g payload hands is = absurd is
handed_payload (Ask h) g payload hands is = absurd is
handed_payload (Bytes to frame) g payload hands is = absurd is
handed_payload (Say a to statement) g payload hands is = absurd is
handed_payload (Bundle a to packets) g payload hands is = absurd is
handed_payload (Steal a to statement) g payload hands is = absurd is
handed_payload Wedge g payload hands is = absurd is
handed_payload (Decide h) g payload hands is = absurd is
handed_payload (Retire h) g payload hands is = absurd is
handed_payload Open g payload hands is = absurd is

-- events, one after another
events_keep : {S : Type 0} (setting : Setting S) → setting.scope.rules.hosts ≤ 32 → (events : List Plain) (w next : World) → All HandsPayload events
    → HappenAll setting w events (Ok next) → IsKept setting.scope.rules.hosts w → IsKept setting.scope.rules.hosts next
events_keep setting few [] w next hands happen k =
    let same : next ≡ w = cc in subst (IsKept setting.scope.rules.hosts) (sym same) k
events_keep {S} setting few (event ∷ events) w next hands happen k = by happen.0 happen.1 happen.2 (λ mid kept rest. events_keep setting few events mid next (All-tail HandsPayload event events hands) rest kept)
  where
    by : (mid : Result World End) → Happens setting w event mid → Then mid (Ok next) (λ x. HappenAll setting x events (Ok next))
        → ((x : World) → IsKept setting.scope.rules.hosts x → HappenAll setting x events (Ok next) → IsKept setting.scope.rules.hosts next)
        → IsKept setting.scope.rules.hosts next
    by (Ok mid) happens rest on =
        on mid (happens_by setting (λ g payload. IsPayload payload) (IsKept setting.scope.rules.hosts) (keeps_all setting few) w mid event
        (λ g payload is. handed_payload event g payload (All-head HandsPayload event events hands) is) happens k) rest
    by (Err end) happens rest on = absurd (cc)

-- the first world
fresh_kept : {S : Type 0} (setting : Setting S) → IsKept setting.scope.rules.hosts (fresh_world setting)
unfolding fresh_world
fresh_kept setting = record {
  nodes = λ g. first_holds setting.scope setting.scope.rules.hosts g;
  top = record {
    reports = λ h slot. All-nil (λ (r : Reported). IsWell r.content);
    silent = λ h slot past. refl;
    decided = λ h. All-nil IsWell;
    none = λ h past. refl;
    short = λ h. omega arith;
    ends = λ h now. refl;
  };
  run = record { few = omega arith; short = λ h. omega arith; payloads = All-nil HasPayload };
}

-- a list that is filtered is no longer
filter_short : {A : Type 0} (test : A → Bool) (xs : List A) → length (filter test xs) ≤ length xs
filter_short test [] = omega arith
filter_short test (x ∷ xs) = by (test x) (filter_short test xs)
  where
    by : (b : Bool) → length (filter test xs) ≤ length xs → length (if b then x ∷ filter test xs else filter test xs) ≤ length (x ∷ xs)
    by true rest = omega (arith, rest)
    by false rest = omega (arith, rest)

-- a range is as long as it says
range_long : (a n : ℕ) → length (range_with_len a n) ≡ n
range_long a zero = refl
range_long a (suc n) = ap suc (range_long (a + 1) n)

-- no sum is greater than of as many greatest numbers
total_bound : (n m : ℕ) (f : ℕ → ℕ) → ((x : ℕ) → f x ≤ m) → total n f ≤ n * m
total_bound zero m f few = omega arith
total_bound (suc n) m f few =
    let rest = total_bound n m f few in
    let here = few n in
    let product : suc n * m ≡ n * m + m = omega arith in
    omega (arith, rest, here, product)

-- the printed run is short, and its inputs have payloads
pub runs_short : {S : Type 0} (setting : Setting S) → RunsShort setting
unfolding printed_run
runs_short setting few events w hands happen =
    let kept = events_keep setting few events (fresh_world setting) w hands happen (fresh_kept setting) in
    let run = kept.run in
    let gone = filter w.olympus.retired (hosts_of setting.scope) in
    let both = length-append w.run (map Stop gone) in
    let stops = length-map gone Stop in
    let left = filter_short w.olympus.retired (hosts_of setting.scope) in
    let all = range_long 0 setting.scope.rules.hosts in
    let steps = run.few in
    let most = total_bound 32 1024 w.longest run.short in
    record {
      few = omega (arith, both, stops, left, all, few, steps, most);
      payloads = All-append HasPayload w.run (map Stop gone) run.payloads (each_given HasPayload Stop gone (λ h. tt));
    }

-- What the Olympus keeps stays shown: whatever record it notes and whatever it decides, in each later world.
use Rattle.std.proofs.Common.{◌≡◌, ℕ, zero, suc, ◌+◌, ◌-◌, ◌<◌, ◌==◌, Bool, true, false, List, [], ◌∷◌, ◌++◌, length, Some, None, refl, sym, subst, inl, inr, arith}
use Rattle.std.specs.Prelude.{All, Contains, fold, if◌then◌else◌}
use Rattle.std.specs.List.{list_any}
use Rattle.std.proofs.lemmas.List.Elements.{All-push}
use Rattle.nys_bytes.specs.declared.content.Content.{Content}
use Rattle.nys_agreement.proofs.ListLemmas.{in_append}
use Rattle.nys_agreement.proofs.TableLemmas.{put_at_case, put_case}
use Rattle.nys_hosts.proofs.CountLemmas.{AtLeast-map}
use Rattle.nys_hosts.proofs.QuorumLemmas.{AtLeast-honest}
use Rattle.nys_stmt.specs.declared.records.Record.{Record}
use Rattle.nys_stmt.specs.declared.statement.Body.{Body}
use Rattle.nys_stmt.specs.declared.statement.Body.TheVariants as body
use Rattle.nys_stmt.specs.declared.statement.FilledKind.TheVariants as kind
use Rattle.nys_stmt.specs.declared.statement.Statement.{Statement}
use Rattle.nys_stmt.specs.declared.tags.Tags.{Tags}
use Rattle.nys_rules.specs.declared.decision.Decision.{Decision}
use Rattle.nys_rules.specs.declared.decision.Decision.TheVariants as decide
use Rattle.nys_rules.specs.Dropping.{accepted, untagged}
use Rattle.nys_rules.specs.Evidence.{IsSeen}
use Rattle.nys_rules.specs.Forged.{Entry, HasMade}
use Rattle.nys_rules.specs.Olympus.{after_decision, Decides, decision, misplaced_testimony, olympus_verdict, OlympusView, Reported, supported, supports, testified, testified_body, with_report}
use Rattle.nys_rules.specs.Scope.{olympus}
use Rattle.nys_rules.specs.Sending.{said_in}
use Rattle.nys_rules.specs.World.{Setting, World}
use Rattle.nys_rules.proofs.SearchLemmas.{or_none}
use Rattle.nys_laws.specs.Testimony.{HearsTestimony, IsTrueReport}
use Rattle.nys_laws.specs.Vouched.{IsVouched}
use Rattle.nys_laws.proofs.DecisionLemmas.{supported_stands}
use Rattle.nys_laws.proofs.HeardLemmas.{passed_on}
use Rattle.nys_laws.proofs.OlympusLemmas.{decided_pending}
use Rattle.std.proofs.lemmas.Bool.Decides.{Decides-eqb}
use Rattle.nys_follows.specs.Scenario.{IsScenario}
use Rattle.nys_follows.proofs.FeedingWorlds.{few_liars_of, set_up_of}
use Rattle.nys_evidence.proofs.SeenLemmas.{Reaches, seen_of}
use Rattle.nys_evidence.proofs.ShownFacts.{AreBorne, IsBorne, IsOlympusShown}
use Rattle.nys_evidence.proofs.SupportLemmas.{reporters_low, supported_entry, supported_makers}
use Rattle.nys_evidence.proofs.TakeKeeping.{IsTaken}

-- one maker's report more
report_kept : (P : Reported → Type 0) (content : Content) (reports : List Reported) (t : Tags)
    → P (record { guard = t.maker; content = content }) → All P reports → All P (with_report content reports t)
report_kept P content reports t new all = by (list_any (λ (r : Reported). r.guard == t.maker) reports)
  where
    by : (b : Bool) → All P (if b then reports else reports ++ record { guard = t.maker; content = content } ∷ [])
    by true = all
    by false = All-push P reports (record { guard = t.maker; content = content }) all new

-- those of several makers
reports_kept : (P : Reported → Type 0) (content : Content) (reports : List Reported) (makers : List Tags)
    → ((t : Tags) → Contains makers t → P (record { guard = t.maker; content = content })) → All P reports
    → All P (fold (with_report content) reports makers)
reports_kept P content reports [] each all = all
reports_kept P content reports (t ∷ makers) each all =
    reports_kept P content (with_report content reports t) makers
    (λ x among. each x (suc among.0, omega (arith, among.1), among.2))
    (report_kept P content reports t (each t (zero, omega arith, refl)) all)

-- a report that was seen
abbrev ReportSeen : {S : Type 0} → Setting S → World → (e h slot : ℕ) → Reported → Type 0
ReportSeen setting z e h slot r =
    IsSeen setting z olympus (said_in e (body.Filled kind.Report h slot r.content)) r.guard

-- each kind of record
body_shown : {S : Type 0} (setting : Setting S) (z : World) (o : OlympusView) (e : ℕ) (said : Body) (makers : List Tags)
    → misplaced_testimony setting.scope o e said ≡ None
    → ((t : Tags) → Contains makers t → IsSeen setting z olympus (said_in e said) t.maker)
    → IsOlympusShown setting z o → IsOlympusShown setting z (testified_body said makers o)
body_shown setting z o e (body.Filled kind.Offer h slot content) makers is seen k = k
body_shown setting z o e (body.Filled kind.Order h slot content) makers is seen k = k
body_shown setting z o e (body.Filled kind.Deliver h slot content) makers is seen k = k
body_shown setting z o e (body.Filled kind.Inherit h slot content) makers is seen k = k
body_shown setting z o e (body.Attest p h n payload) makers is seen k = k
body_shown setting z o e (body.Ask h slot) makers is seen k = k
body_shown setting z o e body.Wedge makers is seen k = k
body_shown setting z o e (body.Open lengths) makers is seen k = k
body_shown setting z o e (body.Frozen h slot) makers is seen k = record { reports = k.reports; decided = k.decided }
body_shown {S} setting z o e (body.Filled kind.Report h slot content) makers is seen k = record {
  reports = λ x s.
      put_at_case (All (ReportSeen setting z o.epoch x s)) o.reports h slot after x s
      (λ a b.
      subst (λ y. All (ReportSeen setting z o.epoch y s) after) (sym a)
      (subst (λ y. All (ReportSeen setting z o.epoch h y) after) (sym b) new))
      (λ other. k.reports x s);
  decided = k.decided;
}
  where
    after : List Reported
    after = fold (with_report content) (o.reports h slot) makers

    now : e ≡ o.epoch
    now = (Decides-eqb e o.epoch).0 (passed_on (e == o.epoch) _ _ is).0

    new : All (ReportSeen setting z o.epoch h slot) after
    new = reports_kept (ReportSeen setting z o.epoch h slot) content (o.reports h slot) makers
        (λ t among.
        subst (λ d. IsSeen setting z olympus (said_in d (body.Filled kind.Report h slot content)) t.maker) now (seen t among))
        (k.reports h slot)

-- a record that the Olympus took and doesn't drop
pub testified_shown : {S : Type 0} (setting : Setting S) (w z : World) (o : OlympusView) (r : Record)
    → olympus_verdict setting.scope o r ≡ None → Reaches w z → IsTaken w olympus r
    → IsOlympusShown setting z o → IsOlympusShown setting z (testified setting.scope o r)
unfolding olympus_verdict testified
testified_shown setting w z o r is reach told k =
    let makers = accepted setting.scope r.statement.epoch olympus r in
    body_shown setting z o r.statement.epoch r.statement.body makers
    (or_none (misplaced_testimony setting.scope o r.statement.epoch r.statement.body) (untagged makers) is).0
    (λ t among. seen_of setting w z olympus r reach told t among) k

-- a content that supports a slot: its reports were seen, and an honest guard reported so
supported_borne : {S : Type 0} (setting : Setting S) → IsScenario setting → (z : World) (ledger : List Entry) (o : OlympusView)
    (h slot : ℕ) (content : Content) → HearsTestimony setting ledger o
    → ((m : ℕ) (s : Statement) → HasMade ledger m s → HasMade z.ledger m s)
    → IsOlympusShown setting z o → supported setting.scope o h slot ≡ Some content → IsBorne setting z h slot content
unfolding supported
supported_borne {S} setting asked z ledger o h slot content true_all more k e = record {
  epoch = o.epoch;
  votes = inr (AtLeast-map (setting.scope.t o.epoch h + 1) Found Seen each
      (supported_makers Both (setting.scope.t o.epoch h) (o.reports h slot) content (true_all.different h slot)
      (reporters_low setting (set_up_of setting asked) ledger o h slot true_all)
      (λ i d within. (true_all.reports h slot i d within, k.reports h slot i d within)) e));
  maker = one.0;
  said = inr (more one.0 (said_in o.epoch report) (one.2.1 one.3));
}
  where
    report : Body
    report = body.Filled kind.Report h slot content

    Both : Reported → Type 0
    Both r = IsTrueReport setting ledger o.epoch (o.base h) h slot r × ReportSeen setting z o.epoch h slot r

    Found : ℕ → Type 0
    Found m = (r : Reported) × Both r × (r.guard ≡ m) × (r.content ≡ content)

    Seen : ℕ → Type 0
    Seen m = (setting.scope.guards o.epoch h m ≡ true) × IsSeen setting z olympus (said_in o.epoch report) m

    each : (m : ℕ) → Found m → Seen m
    each m found =
        let seen = subst (λ c. IsSeen setting z olympus (said_in o.epoch (body.Filled kind.Report h slot c)) found.0.guard)
        found.3 found.1.1 in
        subst Seen found.2 (found.1.0.stands.0, seen)

    P : ℕ → Type 0
    P = IsVouched setting ledger o.epoch h report

    one : (m : ℕ) × (m < 32) × P m × (setting.liars m ≡ false)
    one = AtLeast-honest (setting.scope.t o.epoch h) (setting.scope.guards o.epoch h) setting.liars P (λ m v. v.0)
        ((few_liars_of setting asked).few o.epoch h)
        (supported_stands setting (set_up_of setting asked) ledger o h slot content true_all e)

-- the Olympus that is told to decide
pub decision_shown : {S : Type 0} (setting : Setting S) → IsScenario setting → (z : World) (ledger : List Entry)
    (o : OlympusView) (h : ℕ) (after : OlympusView) (answer : Decision) → Decides setting.scope o h after answer
    → (o.decided_now h ≡ false → length (o.decided h) ≡ o.base h) → HearsTestimony setting ledger o
    → ((m : ℕ) (s : Statement) → HasMade ledger m s → HasMade z.ledger m s)
    → IsOlympusShown setting z o → IsOlympusShown setting z after
unfolding supports
decision_shown {S} setting asked z ledger o h after answer decides begins true_all more k =
    subst (IsOlympusShown setting z) (sym decides.after_is) (by answer decides.told)
  where
    grown : (len : ℕ) → decision setting.scope o h ≡ decide.Decided len
        → AreBorne setting z h (o.decided h ++ supports setting.scope o h)
    grown len told s content is = elim (in_append (o.decided h) (supports setting.scope o h) s content is) [
      | inl old ↦ k.decided h s content old
      | inr new ↦
          let base = begins (decided_pending setting.scope o h len told).0.open_still in
          let there : length (o.decided h) + (s - length (o.decided h)) ≡ s = let le = new.0 in omega (arith, le) in
          let entry = supported_entry setting.scope o h 1024 (o.base h) (s - length (o.decided h)) content new.1 in
          supported_borne setting asked z ledger o h s content true_all more k
          (subst (λ n. supported setting.scope o h n ≡ Some content) there
          (subst (λ b. supported setting.scope o h (b + (s - length (o.decided h))) ≡ Some content) (sym base) entry))
    ]

    by : (answer : Decision) → answer ≡ decision setting.scope o h
        → IsOlympusShown setting z (after_decision setting.scope o h answer)
    by (decide.Decided len) told = record {
      reports = k.reports;
      decided = λ x.
          put_case (AreBorne setting z x) o.decided h (o.decided h ++ supports setting.scope o h) x
          (λ here. subst (λ y. AreBorne setting z y (o.decided h ++ supports setting.scope o h)) (sym here) (grown len (sym told)))
          (λ there. k.decided x);
    }
    by (decide.Undecided supported frozen) told = k
    by decide.NotWedged told = k
    by decide.Settled told = k

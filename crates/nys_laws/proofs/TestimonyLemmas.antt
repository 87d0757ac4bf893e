-- What the Olympus keeps of guards stays true, whatever it hears and decides.
use Rattle.std.proofs.Common.{◌≡◌, ◌≢◌, ℕ, zero, suc, ◌<◌, ◌≤◌, ◌==◌, ◌&&◌, ◌||◌, Bool, true, false, List, [], ◌∷◌, ◌++◌, length, Some, None, refl, ap, sym, subst, ◌∙◌, inl, inr, arith, leb-true}
use Rattle.std.specs.Prelude.{All, AllPairs, Contains, Option, fold, if◌then◌else◌, nat_le, nat_lt, not}
use Rattle.std.specs.List.{list_any}
use Rattle.std.proofs.lemmas.Bool.Decides.{Decides-eqb, Decides-ltb}
use Rattle.std.proofs.lemmas.List.Elements.{All-cons, All-head, All-nil, All-push, All-tail, All-weaker}
use Rattle.std.proofs.lemmas.List.Kept.{AllPairs-cons}
use Rattle.nys_agreement.proofs.TableLemmas.{put_at_case, put_case}
use Rattle.nys_bytes.specs.declared.content.Content.{Content}
use Rattle.nys_source.specs.Tables.{put_at}
use Rattle.nys_stmt.specs.declared.records.Record.{Record}
use Rattle.nys_stmt.specs.declared.statement.Body.{Body}
use Rattle.nys_stmt.specs.declared.statement.Body.TheVariants as body
use Rattle.nys_stmt.specs.declared.statement.FilledKind.TheVariants as kind
use Rattle.nys_stmt.specs.declared.statement.Statement.{Statement}
use Rattle.nys_stmt.specs.declared.tags.Tags.{Tags}
use Rattle.nys_votes.specs.Seats.{no_seats, seat_of, with_seat}
use Rattle.nys_rules.specs.declared.cause.DropCause.{DropCause}
use Rattle.nys_rules.specs.declared.decision.Decision.{Decision}
use Rattle.nys_rules.specs.declared.decision.Decision.TheVariants as decide
use Rattle.nys_rules.specs.Dropping.{accepted, permits, unless, untagged}
use Rattle.nys_rules.specs.Forged.{Entry, with_made}
use Rattle.nys_rules.specs.Olympus.{after_decision, Decides, is_settled, misplaced_testimony, olympus_verdict, OlympusView, Reported, testified, testified_body, testimony_drop, with_decision, with_report}
use Rattle.nys_rules.specs.Scope.{olympus, Scope}
use Rattle.nys_rules.specs.Sending.{said_in}
use Rattle.nys_rules.specs.World.{is_honest, Setting, World}
use Rattle.nys_rules.proofs.CertificateLemmas.{both_true, not_equal}
use Rattle.nys_rules.proofs.SearchLemmas.{or_none}
use Rattle.nys_rules.proofs.SeatCases.{seats_case}
use Rattle.nys_rules.proofs.SeatKeeping.{length-no_seats, length-with_seat}
use Rattle.nys_laws.specs.SetUp.{IsSetUp}
use Rattle.nys_laws.specs.Testimony.{HearsTestimony, IsTrueFrozen, IsTrueReport}
use Rattle.nys_laws.specs.Vouched.{IsVouched}
use Rattle.nys_laws.proofs.AcceptedLemmas.{accepted_true}
use Rattle.nys_laws.proofs.DeskLemmas.{no_seat}
use Rattle.nys_laws.proofs.EventKeeping.{IsAccepted}
use Rattle.nys_laws.proofs.HeardLemmas.{passed_on}
use Rattle.nys_laws.proofs.LedgerLemmas.{made_before}
use Rattle.nys_laws.proofs.OlympusLemmas.{all_permitted}

-- where more was made
stands_more : {S : Type 0} (setting : Setting S) (party : ℕ) (made : List Statement) (ledger : List Entry) (e h : ℕ) (said : Body)
    (m : ℕ) → IsVouched setting ledger e h said m → IsVouched setting (with_made party made ledger) e h said m
stands_more setting party made ledger e h said m stands =
    (stands.0, λ truthful. made_before party made ledger m (said_in e said) (stands.1 truthful))

-- all that the Olympus keeps is true still
pub more_testimony : {S : Type 0} (setting : Setting S) (party : ℕ) (made : List Statement) (ledger : List Entry) (o : OlympusView)
    → HearsTestimony setting ledger o → HearsTestimony setting (with_made party made ledger) o
more_testimony setting party made ledger o k = record {
  reports = λ h slot i d within.
      let r = k.reports h slot i d within in
      record { host = r.host; above = r.above; stands = stands_more setting party made ledger o.epoch h _ _ r.stands };
  different = k.different;
  frozen = λ h m slot is.
      let f = k.frozen h m slot is in
      record { host = f.host; stands = stands_more setting party made ledger o.epoch h (body.Frozen h slot) m f.stands };
  seats = k.seats;
}

-- the Olympus of the same epoch, bases and testimony
pub same_testimony : {S : Type 0} (setting : Setting S) (ledger : List Entry) (o : OlympusView) (wedged : Bool)
    (decided : ℕ → List Content) (decided_now retired : ℕ → Bool) → HearsTestimony setting ledger o
    → HearsTestimony setting ledger (record o { wedged = wedged; decided = decided; decided_now = decided_now; retired = retired })
same_testimony setting ledger o wedged decided decided_now retired k =
    record { reports = k.reports; different = k.different; frozen = k.frozen; seats = k.seats }

-- the Olympus with no testimony
pub no_testimony : {S : Type 0} (setting : Setting S) (ledger : List Entry) (o : OlympusView)
    → ((h slot : ℕ) → o.reports h slot ≡ []) → ((h : ℕ) → o.frozen h ≡ no_seats) → HearsTestimony setting ledger o
no_testimony setting ledger o none empty = record {
  reports = λ h slot.
      subst (All (IsTrueReport setting ledger o.epoch (o.base h) h slot)) (sym (none h slot))
      (All-nil (IsTrueReport setting ledger o.epoch (o.base h) h slot));
  different = λ h slot.
      subst (AllPairs (λ (a b : Reported). a.guard ≢ b.guard)) (sym (none h slot)) (λ i j d lt within. absurd (omega (arith, within)));
  frozen = λ h m slot is. absurd (no_seat m slot (ap (λ seats. seat_of seats m) (sym (empty h)) ∙ is));
  seats = λ h. ap length (empty h) ∙ length-no_seats ℕ;
}

-- a host that doesn't lie is honest
honest_host : {S : Type 0} (setting : Setting S) (m : ℕ) → m < setting.scope.rules.hosts → setting.liars m ≡ false
    → is_honest setting m ≡ true
honest_host {S} setting m low truthful =
    ap (λ b. (m == olympus) || (b && not (setting.liars m))) ((Decides-ltb m setting.scope.rules.hosts).1 low)
    ∙ ap (λ b. (m == olympus) || not b) truthful
    ∙ either (m == olympus)
  where
    either : (b : Bool) → (b || true) ≡ true
    either true = refl
    either false = refl

-- the accepted makers of what guards of a host may say stand for it
heard_stands : {S : Type 0} (setting : Setting S) → IsSetUp setting.scope → (w : World) (r : Record) (h : ℕ)
    → IsAccepted setting w olympus r
    → ((m : ℕ) → permits setting.scope r.statement.epoch r.statement.body m ≡ true → setting.scope.guards r.statement.epoch h m ≡ true)
    → (t : Tags) → Contains (accepted setting.scope r.statement.epoch olympus r) t
    → IsVouched setting w.ledger r.statement.epoch h r.statement.body t.maker
heard_stands setting set w r h some guards t among =
    let guard = guards t.maker (all_permitted setting.scope olympus r t among) in
    let low = set.hosts.guards r.statement.epoch h t.maker guard in
    let few = set.hosts.few in (
      guard,
      λ truthful.
          accepted_true setting w.ledger olympus r some.made t among (omega (arith, low, few)) (honest_host setting t.maker low truthful),
    )

-- what joins the end of a list in which all differ, and differs from all
pairs_push : {A : Type 0} (R : A → A → Type 0) (xs : List A) (x : A) → AllPairs R xs → All (λ y. R y x) xs
    → AllPairs R (xs ++ x ∷ [])
pairs_push R [] x pairs all = λ i j d lt within. absurd (omega (arith, lt, within))
pairs_push R (y ∷ xs) x pairs all =
    AllPairs-cons R y (xs ++ x ∷ [])
    (All-push (R y) xs x (λ k d within. pairs zero (suc k) d (omega arith) (omega (arith, within))) (All-head (λ z. R z x) y xs all))
    (pairs_push R xs x (λ i j d lt within. pairs (suc i) (suc j) d (omega (arith, lt)) (omega (arith, within)))
    (All-tail (λ z. R z x) y xs all))

-- where none passes each fails
none_pass : {A : Type 0} (test : A → Bool) (xs : List A) → list_any test xs ≡ false → All (λ x. test x ≡ false) xs
none_pass test [] e = All-nil (λ x. test x ≡ false)
none_pass {A} test (x ∷ xs) e = by (test x) refl e (λ later. none_pass test xs later)
  where
    by : (b : Bool) → test x ≡ b → (b || list_any test xs) ≡ false
        → (list_any test xs ≡ false → All (λ y. test y ≡ false) xs) → All (λ y. test y ≡ false) (x ∷ xs)
    by true is e rest = absurd (cc)
    by false is e rest = All-cons (λ y. test y ≡ false) x xs is (rest e)

-- the reports of a slot are true, and no guard has two
record AreReports (P : Reported → Type 0) (reports : List Reported) : Type 0 where
  true_all : All P reports
  different : AllPairs (λ a b. a.guard ≢ b.guard) reports

-- one maker more
report_joins : (P : Reported → Type 0) (content : Content) (reports : List Reported) (t : Tags)
    → P (record { guard = t.maker; content = content }) → AreReports P reports → AreReports P (with_report content reports t)
report_joins P content reports t p k = by (list_any (λ (r : Reported). r.guard == t.maker) reports) refl
  where
    new : Reported
    new = record { guard = t.maker; content = content }

    by : (b : Bool) → list_any (λ (r : Reported). r.guard == t.maker) reports ≡ b
        → AreReports P (if b then reports else reports ++ new ∷ [])
    by true is = k
    by false is = record {
      true_all = All-push P reports new k.true_all p;
      different =
          pairs_push (λ (a b : Reported). a.guard ≢ b.guard) reports new k.different
          (All-weaker (λ (r : Reported). (r.guard == t.maker) ≡ false) (λ r. r.guard ≢ t.maker)
          (λ r other. not_equal r.guard t.maker other) reports (none_pass (λ (r : Reported). r.guard == t.maker) reports is));
    }

-- the makers of a record
reports_join : (P : Reported → Type 0) (content : Content) (reports : List Reported) (makers : List Tags)
    → All (λ (t : Tags). P (record { guard = t.maker; content = content })) makers → AreReports P reports
    → AreReports P (fold (with_report content) reports makers)
reports_join P content reports [] each k = k
reports_join P content reports (t ∷ makers) each k =
    let Q = λ (x : Tags). P (record { guard = x.maker; content = content }) in
    reports_join P content (with_report content reports t) makers (All-tail Q t makers each)
    (report_joins P content reports t (All-head Q t makers each) k)

-- a testimony that isn't dropped is of the Olympus's epoch, about a host
testimony_is : {S : Type 0} (scope : Scope S) (o : OlympusView) (e h : ℕ) (rest : Option DropCause)
    → testimony_drop scope o e h rest ≡ None → (e ≡ o.epoch) × (h < scope.rules.hosts) × (rest ≡ None)
testimony_is scope o e h rest is =
    let first = passed_on (e == o.epoch) _ _ is in
    let second = passed_on o.wedged _ _ first.1 in
    let third = passed_on (nat_lt h scope.rules.hosts && not (is_settled o h)) _ _ second.1 in
    ((Decides-eqb e o.epoch).0 first.0, (Decides-ltb h scope.rules.hosts).0 (both_true (nat_lt h scope.rules.hosts) _ third.0).0, third.1)

-- the makers of a record stand for it
abbrev AllStand : {S : Type 0} → Setting S → List Entry → (e h : ℕ) → Body → List Tags → Type 0
AllStand setting ledger e h said makers = (t : Tags) → Contains makers t → IsVouched setting ledger e h said t.maker

-- what holds of each that a list contains
contained_all : {A : Type 0} (P : A → Type 0) (xs : List A) → ((x : A) → Contains xs x → P x) → All P xs
contained_all P [] each = All-nil P
contained_all P (x ∷ xs) each =
    All-cons P x xs (each x (zero, omega arith, refl))
    (contained_all P xs (λ y among. each y (suc among.0, omega (arith, among.1), among.2)))

-- reports that are noted
reports_heard : {S : Type 0} (setting : Setting S) (ledger : List Entry) (o : OlympusView) (h slot : ℕ) (content : Content)
    (makers : List Tags) → h < setting.scope.rules.hosts → o.base h ≤ slot
    → AllStand setting ledger o.epoch h (body.Filled kind.Report h slot content) makers → HearsTestimony setting ledger o
    → HearsTestimony setting ledger (testified_body (body.Filled kind.Report h slot content) makers o)
reports_heard {S} setting ledger o h slot content makers low above stands k = record {
  reports = λ x s. (each x s).true_all;
  different = λ x s. (each x s).different;
  frozen = k.frozen;
  seats = k.seats;
}
  where
    P : (x s : ℕ) → Reported → Type 0
    P x s = IsTrueReport setting ledger o.epoch (o.base x) x s

    new : AreReports (P h slot) (fold (with_report content) (o.reports h slot) makers)
    new = reports_join (P h slot) content (o.reports h slot) makers
        (contained_all (λ (t : Tags). P h slot (record { guard = t.maker; content = content })) makers
        (λ t among. record { host = low; above = above; stands = stands t among }))
        (record { true_all = k.reports h slot; different = k.different h slot })

    each : (x s : ℕ) → AreReports (P x s) (put_at o.reports h slot (fold (with_report content) (o.reports h slot) makers) x s)
    each x s =
        put_at_case (AreReports (P x s)) o.reports h slot (fold (with_report content) (o.reports h slot) makers) x s
        (λ a b.
        subst (λ y. AreReports (P y s) (fold (with_report content) (o.reports h slot) makers)) (sym a)
        (subst (λ y. AreReports (P h y) (fold (with_report content) (o.reports h slot) makers)) (sym b) new))
        (λ other. record { true_all = k.reports x s; different = k.different x s })

-- there are as many seats once makers took theirs
seats_stay : (slot : ℕ) (makers : List Tags) (seats : List (Option ℕ))
    → length (fold (λ some (t : Tags). with_seat t.maker slot some) seats makers) ≡ length seats
seats_stay slot [] seats = refl
seats_stay slot (t ∷ makers) seats =
    seats_stay slot makers (with_seat t.maker slot seats) ∙ length-with_seat t.maker slot seats

-- slots of frozen guards that are noted
frozen_heard : {S : Type 0} (setting : Setting S) (ledger : List Entry) (o : OlympusView) (h slot : ℕ) (makers : List Tags)
    → h < setting.scope.rules.hosts → AllStand setting ledger o.epoch h (body.Frozen h slot) makers
    → HearsTestimony setting ledger o → HearsTestimony setting ledger (testified_body (body.Frozen h slot) makers o)
frozen_heard {S} setting ledger o h slot makers low stands k = record {
  reports = k.reports;
  different = k.different;
  frozen = λ x.
      put_case (Holds x) o.frozen h new x
      (λ here. subst (λ y. Holds y new) (sym here) holds)
      (λ there. k.frozen x);
  seats = λ x.
      put_case (λ (seats : List (Option ℕ)). length seats ≡ 32) o.frozen h new x
      (λ here. seats_stay slot makers (o.frozen h) ∙ k.seats h) (λ there. k.seats x);
}
  where
    new : List (Option ℕ)
    new = fold (λ seats (t : Tags). with_seat t.maker slot seats) (o.frozen h) makers

    Holds : ℕ → List (Option ℕ) → Type 0
    Holds x seats = (m at : ℕ) → seat_of seats m ≡ Some at → IsTrueFrozen setting ledger o.epoch x m at

    holds : Holds h new
    holds m at is = elim (seats_case (λ (t : Tags). t.maker) (λ t. slot) makers (o.frozen h) m at is) [
      | inl old ↦ k.frozen h m at old
      | inr now ↦
          subst (λ a. IsTrueFrozen setting ledger o.epoch h m a) now.3
          (subst (λ y. IsTrueFrozen setting ledger o.epoch h y slot) now.2 (record { host = low; stands = stands now.0 now.1 }))
    ]

-- each kind of record
body_heard : {S : Type 0} (setting : Setting S) (ledger : List Entry) (o : OlympusView) (e : ℕ) (said : Body) (makers : List Tags)
    → misplaced_testimony setting.scope o e said ≡ None
    → ((h : ℕ) → ((m : ℕ) → permits setting.scope e said m ≡ true → setting.scope.guards e h m ≡ true)
    → AllStand setting ledger e h said makers)
    → HearsTestimony setting ledger o → HearsTestimony setting ledger (testified_body said makers o)
body_heard setting ledger o e (body.Filled kind.Offer h slot content) makers is stands k = k
body_heard setting ledger o e (body.Filled kind.Order h slot content) makers is stands k = k
body_heard setting ledger o e (body.Filled kind.Deliver h slot content) makers is stands k = k
body_heard setting ledger o e (body.Attest p h n payload) makers is stands k = k
body_heard setting ledger o e (body.Ask h slot) makers is stands k = k
body_heard setting ledger o e body.Wedge makers is stands k = k
body_heard setting ledger o e (body.Filled kind.Report h slot content) makers is stands k =
    let at = testimony_is setting.scope o e h (unless (nat_le (o.base h) slot) _ None) is in
    reports_heard setting ledger o h slot content makers at.1
    (leb-true (o.base h) slot (passed_on (nat_le (o.base h) slot) _ None at.2).0)
    (subst (λ d. AllStand setting ledger d h (body.Filled kind.Report h slot content) makers) at.0 (stands h (λ m permitted. permitted))) k
body_heard setting ledger o e (body.Frozen h slot) makers is stands k =
    let at = testimony_is setting.scope o e h None is in
    frozen_heard setting ledger o h slot makers at.1
    (subst (λ d. AllStand setting ledger d h (body.Frozen h slot) makers) at.0 (stands h (λ m permitted. permitted))) k
body_heard setting ledger o e (body.Open lengths) makers is stands k = k
body_heard setting ledger o e (body.Filled kind.Inherit h slot content) makers is stands k = k

-- a record that the Olympus doesn't drop
pub testimony_heard : {S : Type 0} (setting : Setting S) → IsSetUp setting.scope → (w : World) (r : Record)
    → olympus_verdict setting.scope w.olympus r ≡ None → IsAccepted setting w olympus r
    → HearsTestimony setting w.ledger w.olympus
    → HearsTestimony setting w.ledger (testified setting.scope w.olympus r)
unfolding olympus_verdict testified
testimony_heard setting set w r is some k =
    let makers = accepted setting.scope r.statement.epoch olympus r in
    body_heard setting w.ledger w.olympus r.statement.epoch r.statement.body makers
    (or_none (misplaced_testimony setting.scope w.olympus r.statement.epoch r.statement.body) (untagged makers) is).0
    (λ h guards. heard_stands setting set w r h some guards) k

-- the Olympus that is told to decide
pub decision_told : {S : Type 0} (setting : Setting S) (ledger : List Entry) (o : OlympusView) (h : ℕ) (after : OlympusView)
    (answer : Decision) → Decides setting.scope o h after answer → HearsTestimony setting ledger o
    → HearsTestimony setting ledger after
decision_told {S} setting ledger o h after answer decides k =
    subst (HearsTestimony setting ledger) (sym decides.after_is) (by answer)
  where
    by : (answer : Decision) → HearsTestimony setting ledger (after_decision setting.scope o h answer)
    by (decide.Decided len) = let next = with_decision setting.scope h o in
        same_testimony setting ledger o o.wedged next.decided next.decided_now o.retired k
    by (decide.Undecided supported frozen) = k
    by decide.NotWedged = k
    by decide.Settled = k

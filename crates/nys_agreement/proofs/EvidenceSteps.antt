-- Each event keeps a reason for each entry.
use Rattle.std.proofs.Common.{◌≡◌, ℕ, ◌+◌, ◌-◌, ◌≤◌, ◌⊎◌, List, [], ◌∷◌, ◌++◌, length, refl, sym, ap, subst, ◌∙◌, inl, inr, true, arith, Some}
use Rattle.std.specs.Prelude.{slice_get}
use Rattle.std.proofs.lemmas.Bool.{cases_order}
use Rattle.nys_bytes.specs.declared.content.Content.{Content}
use Rattle.nys_source.specs.Rules.{Rules}
use Rattle.nys_agreement.specs.Net.{Net}
use Rattle.nys_agreement.specs.Said.{By, Has, Said}
use Rattle.nys_agreement.specs.Said.Said.{Deliver, Report}
use Rattle.nys_agreement.specs.Assembly.{Assembly}
use Rattle.nys_agreement.specs.Events.{Enabled, Event, MayDecide, MaySay}
use Rattle.nys_agreement.specs.Events.Event.{Decides, Enters, Hands, Inherits, Logs, Opens, Retires, Says, TopWedges, Wedges}
use Rattle.nys_agreement.specs.After.{after, longest_with, surplus, with_decision, with_entry}
use Rattle.nys_agreement.proofs.ListLemmas.{in_append, in_grown, in_push, length-grown}
use Rattle.nys_agreement.proofs.TableLemmas.{put_at_case, put_case, put_here}
use Rattle.nys_agreement.proofs.Ledgers.{honest_vouch, honest_voucher}
use Rattle.nys_agreement.proofs.Votes.{VotesOk}
use Rattle.nys_agreement.proofs.Openings.{OpeningsOk}
use Rattle.nys_agreement.proofs.Later.{Later, later_decides, later_step}
use Rattle.nys_agreement.proofs.Evidence.{below, Decision, decision_on, EvidenceOk, IsLogged, known_on, logged_known, logged_on, Reported, reported_on, Safe}

-- the longest logs never shrink
pub longest_rises : (w : Assembly) (i : ℕ) (log : List Content) (h : ℕ) → length (w.longest h) ≤ length (longest_with w i log h)
longest_rises w i log h =
    put_case (λ (xs : List Content). length (w.longest h) ≤ length xs) w.longest i (w.longest i ++ surplus w i log) h
    (λ q. let a = ap (λ n. length (w.longest n)) q in let b = (length-grown (w.longest i) log).0 in omega arith) (λ q. omega arith)

-- and hold each log
pub longest_holds : (w : Assembly) (i : ℕ) (log : List Content) → length log ≤ length (longest_with w i log i)
longest_holds w i log =
    subst (λ (xs : List Content). length log ≤ length xs) (sym (put_here w.longest i (w.longest i ++ surplus w i log))) (length-grown (w.longest i) log).1

-- an entry of them is an old one, or one of the log that grew
pub in_longest : (w : Assembly) (i : ℕ) (log : List Content) (h s : ℕ) (c : Content) → slice_get (longest_with w i log h) s ≡ Some c → (slice_get (w.longest h) s ≡ Some c) ⊎ ((h ≡ i) × (slice_get log s ≡ Some c))
in_longest w i log h s c =
    put_case (λ (xs : List Content). slice_get xs s ≡ Some c → (slice_get (w.longest h) s ≡ Some c) ⊎ ((h ≡ i) × (slice_get log s ≡ Some c)))
    w.longest i (w.longest i ++ surplus w i log) h
    (λ q get. elim (in_grown (w.longest i) log s c get) [
      | inl old ↦ inl (ap (λ n. slice_get (w.longest n) s) q ∙ old)
      | inr new ↦ inr (q, new.1)
    ])
    (λ q get. inl get)

-- the reason of an entry of a log that takes one
entry_logged : (net : Net) (w : Assembly) → EvidenceOk net w → (g i : ℕ) (c : Content) → IsLogged net w.ledger w.base w.decided (w.epoch g) i (length (w.log g i)) c → (s : ℕ) (d : Content) → slice_get (w.log g i ++ c ∷ []) s ≡ Some d → IsLogged net w.ledger w.base w.decided (w.epoch g) i s d
entry_logged net w ok g i c why s d get = elim (in_push (w.log g i) c s d get) [
  | inl old ↦ ok.logs g i s d old
  | inr new ↦ rw new.0 (subst (IsLogged net w.ledger w.base w.decided (w.epoch g) i (length (w.log g i))) new.1 why)
]

-- a log that takes an entry for a reason
pub entry_evidence : (net : Net) (w : Assembly) → VotesOk w → EvidenceOk net w → (g i : ℕ) (c : Content) → IsLogged net w.ledger w.base w.decided (w.epoch g) i (length (w.log g i)) c → EvidenceOk net (with_entry w g i c)
entry_evidence net w votes ok g i c why =
    let grown = w.log g i ++ c ∷ [] in
    record {
      logs = λ x h s d. put_at_case (λ (log : List Content). slice_get log s ≡ Some d → IsLogged net w.ledger w.base w.decided (w.epoch x) h s d) w.log g i grown x h
          (λ p q get. rw (p, q) (entry_logged net w ok g i c why s d get))
          (λ other get. ok.logs x h s d get);
      decisions = ok.decisions;
      known = λ h s d get. elim (in_longest w i grown h s d get) [
        | inl old ↦ ok.known h s d old
        | inr new ↦ rw new.0 (logged_known net w votes g i s d (entry_logged net w ok g i c why s d new.1))
      ];
      reports = ok.reports;
      fits = λ x h. put_at_case (λ (log : List Content). length log ≤ length (longest_with w i grown h)) w.log g i grown x h
          (λ p q. rw q (longest_holds w i grown))
          (λ other. let a = ok.fits x h in let b = longest_rises w i grown h in omega arith);
      decided_fits = λ h. let a = ok.decided_fits h in let b = longest_rises w i grown h in omega arith;
    }

-- an entry that is decided on t + 1 Reports has an honest Deliver in the epoch that ends
pub decide_new : (net : Net) (w : Assembly) → Safe net w → EvidenceOk net w → (h : ℕ) (more : List Content) → MayDecide net w h more → (s : ℕ) (c : Content) → length (w.decided h) ≤ s → slice_get more (s - length (w.decided h)) ≡ Some c → (d : Decision w.ledger w.top w.base h s c) × (d.epoch ≡ w.top)
decide_new net w safe ok h more may s c le get =
    let i = s - length (w.decided h) in
    let at : length (w.decided h) + i ≡ s = omega arith in
    let x = honest_voucher net safe.few w.ledger w.top h (Report w.top h (length (w.decided h) + i) c) (may.supported i c get) in
    let r = ok.reports x.0 w.top h (length (w.decided h) + i) c x.2 in
    let a = r.above_base in (
      record {
        epoch = w.top;
        above_base = omega arith;
        maker = r.maker;
        delivered = subst (λ n. Has w.ledger (By r.maker (Deliver w.top h n c))) at r.delivered;
        bound = inl refl;
      },
      refl,
    )

-- so has each entry of the decided log that it gives
pub decide_reason : (net : Net) (w : Assembly) → Safe net w → EvidenceOk net w → (h : ℕ) (more : List Content) → MayDecide net w h more → (s : ℕ) (c : Content) → slice_get (w.decided h ++ more) s ≡ Some c → Decision w.ledger w.top w.base h s c
decide_reason net w safe ok h more may s c get = elim (in_append (w.decided h) more s c get) [
  | inl old ↦ ok.decisions h s c old
  | inr new ↦ (decide_new net w safe ok h more may s c new.0 new.1).0
]

-- a decision has a reason for each of its entries
decide_evidence : (net : Net) (w : Assembly) → Safe net w → EvidenceOk net w → (i : ℕ) (more : List Content) → MayDecide net w i more → EvidenceOk net (with_decision w i more)
decide_evidence net w safe ok i more may =
    let grown = w.decided i ++ more in
    let l = with_decision w i more in
    let later = later_decides w i more in
    record {
      logs = λ x h s d get. elim (ok.logs x h s d get) [ inl why ↦ inl why | inr why ↦ inr (why.0, later.decided h s d why.1) ];
      decisions = λ h s d. put_case (λ (log : List Content). slice_get log s ≡ Some d → Decision w.ledger w.top w.base h s d) w.decided i grown h
          (λ q get. rw q (decide_reason net w safe ok i more may s d get))
          (λ ne get. ok.decisions h s d get);
      known = λ h s d get. elim (in_longest w i grown h s d get) [
        | inl old ↦ elim (ok.known h s d old) [ inl why ↦ inl why | inr why ↦ inr (later.decided h s d why) ]
        | inr new ↦ inr (rw (new.0, put_here w.decided i grown) new.1)
      ];
      reports = ok.reports;
      fits = λ x h. let a = ok.fits x h in let b = longest_rises w i grown h in omega arith;
      decided_fits = λ h. put_case (λ (log : List Content). length log ≤ length (longest_with w i grown h)) w.decided i grown h
          (λ q. rw q (longest_holds w i grown))
          (λ ne. let a = ok.decided_fits h in let b = longest_rises w i grown h in omega arith);
    }

-- a guard reports what was delivered: its entries from the base on are certified in its epoch
report_reason : (net : Net) (w : Assembly) → Safe net w → EvidenceOk net w → (g e h s : ℕ) (c : Content) → w.epoch g ≡ e → w.live e h ≡ true → w.base e h ≤ s → (slice_get (w.log g h) s ≡ Some c) ⊎ Has w.ledger (By g (Deliver e h s c)) → Reported w.ledger w.top w.base w.live e h s c
report_reason net w safe ok g e h s c now alive above (inr made) =
    let a = safe.votes.epochs g in
    record { opened = omega arith; above_base = above; maker = g; delivered = made }
report_reason net w safe ok g e h s c now alive above (inl get) =
    let a = safe.votes.epochs g in
    elim (ok.logs g h s c get) [
      | inr inherited ↦ absurd (let b = inherited.0 in let q = ap (λ n. w.base n h) now in omega arith)
      | inl why ↦
          let le = why.1 in
          elim (cases_order why.0 e) [
            | inl same ↦
                let x = honest_vouch net safe.few w.ledger why.0 h (Deliver why.0 h s c) why.2.delivers in
                record { opened = omega arith; above_base = above; maker = x.0; delivered = subst (λ n. Has w.ledger (By x.0 (Deliver n h s c))) same x.2 }
            | inr (inl lt) ↦ absurd (let b = below net w safe why.0 e h s c why.2 lt (omega arith) alive in omega arith)
            | inr (inr gt) ↦ absurd (omega arith)
          ]
    ]

-- a new statement is no Report, or one of what was delivered
says_reports : {S : Type 0} (rules : Rules S) (net : Net) (w : Assembly) → Safe net w → EvidenceOk net w → (g : ℕ) (said : Said) → MaySay rules net w g said → (x e h s : ℕ) (c : Content) → Has (By g said ∷ w.ledger) (By x (Report e h s c)) → Reported w.ledger w.top w.base w.live e h s c
says_reports rules net w safe ok g said may x e h s c (inr old) = ok.reports x e h s c old
says_reports rules net w safe ok g said may x e h s c (inl new) =
    let what : said ≡ Report e h s c = cc in
    let now = subst (MaySay rules net w g) what may in
    report_reason net w safe ok g e h s c now.1 now.3 now.4 now.5

-- an event that leaves logs and decisions
same_logs : (net : Net) (w l : Assembly) → Later w l → VotesOk w → VotesOk l → OpeningsOk net l → EvidenceOk net w
    → ((x e h s : ℕ) (c : Content) → Has l.ledger (By x (Report e h s c)) → Reported w.ledger w.top w.base w.live e h s c)
    → l.log ≡ w.log → l.decided ≡ w.decided → l.longest ≡ w.longest → EvidenceOk net l
same_logs net w l later votes votes_l openings ok reports log decided longest = record {
  logs = λ x h s c get. logged_on net w l later votes votes_l openings x h s c (ok.logs x h s c (ap (λ (f : ℕ → ℕ → List Content). slice_get (f x h) s) (sym log) ∙ get));
  decisions = λ h s c get. let old = ap (λ (f : ℕ → List Content). slice_get (f h) s) (sym decided) ∙ get in decision_on w l later h s c old (ok.decisions h s c old);
  known = λ h s c get. known_on net w l later h s c (ok.known h s c (ap (λ (f : ℕ → List Content). slice_get (f h) s) (sym longest) ∙ get));
  reports = λ x e h s c has. reported_on w l later e h s c (reports x e h s c has);
  fits = λ x h. let a = ok.fits x h in let p = ap (λ (f : ℕ → ℕ → List Content). length (f x h)) log in let q = ap (λ (f : ℕ → List Content). length (f h)) longest in omega arith;
  decided_fits = λ h. let a = ok.decided_fits h in let p = ap (λ (f : ℕ → List Content). length (f h)) decided in let q = ap (λ (f : ℕ → List Content). length (f h)) longest in omega arith;
}

-- each event keeps this
pub evidence_step : {S : Type 0} (rules : Rules S) (net : Net) (w : Assembly) (event : Event) → Safe net w → EvidenceOk net w → Enabled rules net w event → VotesOk (after w event) → OpeningsOk net (after w event) → EvidenceOk net (after w event)
evidence_step rules net w (Says g said) safe ok may votes openings =
    same_logs net w (after w (Says g said)) (later_step rules net w (Says g said) may) safe.votes votes openings ok (says_reports rules net w safe ok g said may) refl refl refl
evidence_step rules net w (Enters g to) safe ok may votes openings =
    same_logs net w (after w (Enters g to)) (later_step rules net w (Enters g to) may) safe.votes votes openings ok ok.reports refl refl refl
evidence_step rules net w Opens safe ok may votes openings =
    same_logs net w (after w Opens) (later_step rules net w Opens may) safe.votes votes openings ok ok.reports refl refl refl
evidence_step rules net w (Logs g h c) safe ok may votes openings =
    entry_evidence net w safe.votes ok g h c (inl (w.epoch g, omega arith, record { above_base = may.0.above_base; delivers = may.1 }))
evidence_step rules net w (Inherits g h c) safe ok may votes openings = entry_evidence net w safe.votes ok g h c (inr (may.1, may.2))
evidence_step rules net w (Decides h more) safe ok may votes openings = decide_evidence net w safe ok h more may
evidence_step rules net w (Wedges g) safe ok may votes openings = ok
evidence_step rules net w (Hands h payload) safe ok may votes openings = ok
evidence_step rules net w TopWedges safe ok may votes openings = ok
evidence_step rules net w (Retires h) safe ok may votes openings = ok

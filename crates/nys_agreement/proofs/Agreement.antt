-- What honest parties agree on, after every list of events.
use Rattle.std.proofs.Common.{false, ◌+◌, ap, ◌⊎◌, ◌≡◌, ℕ, ◌≤◌, List, [], ◌∷◌, length, refl, sym, subst, ◌∙◌, inl, inr, true, arith, Some}
use Rattle.std.specs.Prelude.{slice_get}
use Rattle.std.proofs.lemmas.Bool.{cases_order}
use Rattle.nys_bytes.specs.declared.content.Content.{Content}
use Rattle.nys_hosts.specs.Counts.{AtLeast}
use Rattle.nys_source.specs.Rules.{Rules}
use Rattle.nys_agreement.specs.Net.{HasFewLiars, Net, quorum_in}
use Rattle.nys_agreement.specs.Said.{FrozeBy}
use Rattle.nys_agreement.specs.Said.Said.{Deliver}
use Rattle.nys_agreement.specs.Assembly.{beginning, Assembly}
use Rattle.nys_agreement.specs.Events.{Enabled, Event}
use Rattle.nys_agreement.specs.Events.Event.{Says}
use Rattle.nys_agreement.specs.After.{after, after_all, Follows}
use Rattle.nys_agreement.specs.Claims.{Agree, Always, DecideNear, DeliverOne, HandOver, IsPrefixOf, SayOnce}
use Rattle.nys_agreement.proofs.ListLemmas.{get_inside, prefix_from}
use Rattle.nys_agreement.proofs.Ledgers.{froze_on, ledger_says, LedgerOk, same_delivers}
use Rattle.nys_agreement.proofs.Votes.{barrier, votes_step}
use Rattle.nys_agreement.proofs.Openings.{openings_step}
use Rattle.nys_agreement.proofs.Later.{Later, later_step}
use Rattle.nys_agreement.proofs.Evidence.{below, EvidenceOk, IsKnown, known_once, logged_known, Safe}
use Rattle.nys_agreement.proofs.EvidenceSteps.{evidence_step}

-- what each event keeps
pub record Sound (net : Net) (w : Assembly) : Type 0 where
  pub safe : Safe net w
  pub evidence : EvidenceOk net w

-- at the beginning nothing was said or logged
pub sound_first : (net : Net) → HasFewLiars net → Sound net beginning
sound_first net few = record {
  safe = record {
    few = few;
    ledger = record { honest = λ m said has. absurd has; first = tt; backed = λ m e h s c has. absurd has };
    votes = record {
      epochs = λ x. omega arith;
      delivers = λ x e h s c has. absurd has;
      done = λ x e h f has. absurd has;
      frozen = λ x e h f s c has. absurd has;
    };
    openings = record {
      rises = λ e l h le le2. omega arith;
      begun = λ e h le. omega arith;
      lived = λ e l h le le2 is. refl;
      closed = λ e h lt. absurd (omega arith);
      kept = λ h is. refl;
      closing = λ h is. absurd (cc);
    };
  };
  evidence = record {
    logs = λ x h s c get. absurd (cc);
    decisions = λ h s c get. absurd (cc);
    known = λ h s c get. absurd (cc);
    reports = λ x e h s c has. absurd has;
    fits = λ x h. omega arith;
    decided_fits = λ h. omega arith;
  };
}

-- only a statement changes the ledger
ledger_step : {S : Type 0} (rules : Rules S) (net : Net) (w : Assembly) (event : Event) → Safe net w → Enabled rules net w event → LedgerOk net (after w event).ledger
ledger_step rules net w (Says g said) safe may = ledger_says rules net safe.few w safe.ledger g said may
ledger_step rules net w event safe may = safe.ledger

-- an event keeps it
pub sound_step : {S : Type 0} (rules : Rules S) (net : Net) (w : Assembly) (event : Event) → Sound net w → Enabled rules net w event → Sound net (after w event)
sound_step rules net w event ok may =
    let votes = votes_step rules net w event ok.safe.votes may in
    let openings = openings_step rules net w event ok.safe.openings may in
    record {
      safe = record { few = ok.safe.few; ledger = ledger_step rules net w event ok.safe may; votes = votes; openings = openings };
      evidence = evidence_step rules net w event ok.safe ok.evidence may votes openings;
    }

-- a list of events keeps it
sound_all : {S : Type 0} (rules : Rules S) (net : Net) (w : Assembly) (events : List Event) → Sound net w → Follows rules net w events → Sound net (after_all w events)
sound_all rules net w [] ok may = ok
sound_all rules net w (event ∷ events) ok may = sound_all rules net (after w event) events (sound_step rules net w event ok may.0) may.1

-- it holds after every list of events
pub sound : {S : Type 0} (rules : Rules S) → Always rules Sound
sound rules net few events may = sound_all rules net beginning events (sound_first net few) may

-- an entry of a log is known
pub log_known : (net : Net) (w : Assembly) → Sound net w → (x h s : ℕ) (c : Content) → slice_get (w.log x h) s ≡ Some c → IsKnown net w h s c
log_known net w ok x h s c get = logged_known net w ok.safe.votes x h s c (ok.evidence.logs x h s c get)

-- the shorter of two logs is a prefix of the other
shorter_agrees : (net : Net) (w : Assembly) → Sound net w → (a b h : ℕ) → length (w.log a h) ≤ length (w.log b h) → IsPrefixOf (w.log a h) (w.log b h)
shorter_agrees net w ok a b h le =
    prefix_from (w.log a h) (w.log b h) le (λ s c d p q. known_once net w ok.safe ok.evidence h s c d (log_known net w ok a h s c p) (log_known net w ok b h s d q))

-- of two logs of a host one is a prefix of the other
pub agrees : {S : Type 0} (rules : Rules S) → Always rules Agree
agrees rules net few events may a b h =
    let w = after_all beginning events in
    let ok = sound rules net few events may in
    elim (cases_order (length (w.log a h)) (length (w.log b h))) [
      | inl same ↦ inl (shorter_agrees net w ok a b h (omega arith))
      | inr (inl lt) ↦ inl (shorter_agrees net w ok a b h (omega arith))
      | inr (inr gt) ↦ inr (shorter_agrees net w ok b a h (omega arith))
    ]

-- no party says two things for one slot
pub says_once : {S : Type 0} (rules : Rules S) → Always rules SayOnce
says_once rules net few events may = (sound rules net few events may).safe.ledger.first

-- honest Delivers for one slot are of one content
pub delivers_one : {S : Type 0} (rules : Rules S) → Always rules DeliverOne
delivers_one rules net few events may a b e h s c d first second =
    let ok = sound rules net few events may in
    same_delivers net few (after_all beginning events).ledger ok.safe.ledger a b e h s c d first second

-- host h was decided at this log in epoch e
record Ended (net : Net) (w : Assembly) (e h : ℕ) (log : List Content) : Type 0 where
  opened : e ≤ w.top
  lives : w.live e h ≡ true
  low : w.base e h ≤ length log
  frozen : AtLeast (quorum_in net e h) (FrozeBy net w.ledger e h (length log))
  entries : (s : ℕ) (c : Content) → slice_get log s ≡ Some c → slice_get (w.decided h) s ≡ Some c

-- the epoch of a host that is decided for its end ended there
ended_now : (net : Net) (w : Assembly) → Sound net w → (h : ℕ) → w.decided_now h ≡ true → Ended net w w.top h (w.decided h)
ended_now net w ok h is = record {
  opened = omega arith;
  lives = ok.safe.openings.kept h is;
  low = ok.safe.openings.begun w.top h (omega arith);
  frozen = ok.safe.openings.closing h is;
  entries = λ s c get. get;
}

-- it was so for ever after
ended_on : (net : Net) (w l : Assembly) → Later w l → (e h : ℕ) (log : List Content) → Ended net w e h log → Ended net l e h log
ended_on net w l later e h log ended = let a = ended.opened in let b = later.top in let same = later.base e h ended.opened in let d = ended.low in record {
  opened = omega arith;
  lives = later.live e h ended.opened ∙ ended.lives;
  low = omega arith;
  frozen = froze_on net w.ledger l.ledger later.ledger e h (length log) ended.frozen;
  entries = λ s c get. later.decided h s c (ended.entries s c get);
}

-- whatever events follow
ended_all : {S : Type 0} (rules : Rules S) (net : Net) (w : Assembly) (events : List Event) → Follows rules net w events → (e h : ℕ) (log : List Content) → Ended net w e h log → Ended net (after_all w events) e h log
ended_all rules net w [] may e h log ended = ended
ended_all rules net w (event ∷ events) may e h log ended =
    ended_all rules net (after w event) events may.1 e h log (ended_on net w (after w event) (later_step rules net w event may.0) e h log ended)

-- no entry past the decided log is certified in that epoch or an earlier one, or was inherited in one
past_end : (net : Net) (w : Assembly) → Sound net w → (e h : ℕ) (log : List Content) → Ended net w e h log → (g : ℕ) → w.epoch g ≤ e → (c : Content) → slice_get (w.log g h) (length log) ≡ Some c → ⊥
past_end net w ok e h log ended g early c get = elim (ok.evidence.logs g h (length log) c get) [
  | inr inherited ↦
      let a = inherited.0 in
      let b = ok.safe.openings.rises (w.epoch g) e h early ended.opened in
      let d = ended.low in
      omega arith
  | inl why ↦
      let le = why.1 in
      elim (cases_order why.0 e) [
        | inl same ↦
            let frozen = subst (λ n. AtLeast (quorum_in net n h) (FrozeBy net w.ledger n h (length log))) (sym same) ended.frozen in
            let a = barrier net ok.safe.few w ok.safe.votes why.0 h (length log) (length log) c why.2.delivers frozen in
            omega arith
        | inr (inl lt) ↦
            let a = below net w ok.safe why.0 e h (length log) c why.2 lt ended.opened ended.lives in
            let d = ended.low in
            omega arith
        | inr (inr gt) ↦ omega arith
      ]
]

-- so the log of a node in that epoch or an earlier one is a prefix of the decided one
ended_holds : (net : Net) (w : Assembly) → Sound net w → (e h : ℕ) (log : List Content) → Ended net w e h log → (g : ℕ) → w.epoch g ≤ e → IsPrefixOf (w.log g h) log
ended_holds net w ok e h log ended g early =
    let entries = λ (s : ℕ) (c d : Content) (p : slice_get (w.log g h) s ≡ Some c) (q : slice_get log s ≡ Some d). known_once net w ok.safe ok.evidence h s c d (log_known net w ok g h s c p) (inr (ended.entries s d q)) in
    elim (cases_order (length log) (length (w.log g h))) [
      | inl same ↦ prefix_from (w.log g h) log (omega arith) entries
      | inr (inl lt) ↦ absurd (let x = get_inside (w.log g h) (length log) lt in past_end net w ok e h log ended g early x.0 x.1)
      | inr (inr gt) ↦ prefix_from (w.log g h) log (omega arith) entries
    ]

-- the decided log holds all logs of that epoch and earlier ones
pub hands_over : {S : Type 0} (rules : Rules S) → HandOver rules
hands_over rules net few events later may may_later g h is early =
    let w = after_all beginning events in
    let ok = sound rules net few events may in
    ended_holds net (after_all w later) (sound_all rules net w later ok may_later) w.top h (w.decided h)
    (ended_all rules net w later may_later w.top h (w.decided h) (ended_now net w ok h is)) g early

-- the last entry of a decided log was delivered by an honest guard whose log had reached it
pub decides_near : {S : Type 0} (rules : Rules S) → Always rules DecideNear
decides_near rules net few events may h =
    let w = after_all beginning events in
    let ok = sound rules net few events may in
    near net w ok h (w.decided h) refl
  where
    near : (net : Net) (w : Assembly) → Sound net w → (h : ℕ) (log : List Content) → w.decided h ≡ log → (w.decided h ≡ []) ⊎ ((g : ℕ) × (net.liars g ≡ false) × (length (w.decided h) ≤ length (w.log g h) + 1))
    near net w ok h [] is = inl is
    near net w ok h (c ∷ log) is =
        let long = ap length is in
        let x = get_inside (w.decided h) (length log) (omega arith) in
        let d = ok.evidence.decisions h (length log) x.0 x.1 in
        let within = (ok.safe.votes.delivers d.maker d.epoch h (length log) x.0 d.delivered).within in
        inr (d.maker, ok.safe.ledger.honest d.maker (Deliver d.epoch h (length log) x.0) d.delivered, omega arith)

-- Epochs: where each begins its logs, who lives in it, and who is frozen where one ended.
use Rattle.std.proofs.Common.{◌≡◌, ℕ, ◌+◌, ◌<◌, ◌≤◌, ◌⊎◌, List, ◌∷◌, ◌++◌, length, sym, ap, subst, ◌∙◌, inl, inr, true, arith, length-append}
use Rattle.std.specs.Prelude.{Bool}
use Rattle.std.proofs.lemmas.Bool.{cases_eq, cases_order}
use Rattle.nys_bytes.specs.declared.content.Content.{Content}
use Rattle.nys_hosts.specs.Counts.{AtLeast}
use Rattle.nys_source.specs.Rules.{Rules}
use Rattle.nys_agreement.specs.Net.{Net, quorum_in}
use Rattle.nys_agreement.specs.Said.{By, FrozeBy, Made, Said}
use Rattle.nys_agreement.specs.Assembly.{Assembly}
use Rattle.nys_agreement.specs.Events.{Enabled, Event, MayDecide}
use Rattle.nys_agreement.specs.Events.Event.{Decides, Enters, Hands, Inherits, Logs, Opens, Retires, Says, TopWedges, Wedges}
use Rattle.nys_agreement.specs.After.{after, with_decision, with_next_epoch}
use Rattle.nys_agreement.proofs.TableLemmas.{put_case, put_here, put_there}
use Rattle.nys_agreement.proofs.Ledgers.{froze_on}
use Rattle.nys_agreement.proofs.Votes.{epoch_kept}

-- the epochs that were opened
pub record EpochsOk (net : Net) (ledger : List Made) (top : ℕ) (decided : ℕ → List Content) (decided_now : ℕ → Bool) (base : ℕ → ℕ → ℕ) (live : ℕ → ℕ → Bool) : Type 0 where
  -- bases never fall
  pub rises : (e l h : ℕ) → e ≤ l → l ≤ top → base e h ≤ base l h
  pub begun : (e h : ℕ) → e ≤ top → base e h ≤ length (decided h)
  -- a host that lives in an epoch lived in all before
  pub lived : (e l h : ℕ) → e ≤ l → l ≤ top → live l h ≡ true → live e h ≡ true
  -- a quorum is frozen where an epoch ended, if the host lives in the next
  pub closed : (e h : ℕ) → e < top → live (e + 1) h ≡ true → AtLeast (quorum_in net e h) (FrozeBy net ledger e h (base (e + 1) h))
  pub kept : (h : ℕ) → decided_now h ≡ true → live top h ≡ true
  pub closing : (h : ℕ) → decided_now h ≡ true → AtLeast (quorum_in net top h) (FrozeBy net ledger top h (length (decided h)))

-- this holds of the assembly
abbrev pub OpeningsOk : Net → Assembly → Type 0
OpeningsOk net w = EpochsOk net w.ledger w.top w.decided w.decided_now w.base w.live

-- a ledger that grows
says_openings : (net : Net) (w : Assembly) (g : ℕ) (said : Said) → OpeningsOk net w → OpeningsOk net (after w (Says g said))
says_openings net w g said ok = record {
  rises = ok.rises;
  begun = ok.begun;
  lived = ok.lived;
  closed = λ e h lt alive. froze_on net w.ledger (By g said ∷ w.ledger) (λ x has. inr has) e h (w.base (e + 1) h) (ok.closed e h lt alive);
  kept = ok.kept;
  closing = λ h is. froze_on net w.ledger (By g said ∷ w.ledger) (λ x has. inr has) w.top h (length (w.decided h)) (ok.closing h is);
}

-- a decision: the quorum that froze where it ends is the one that it waited for
decide_openings : (net : Net) (w : Assembly) (h : ℕ) (more : List Content) → OpeningsOk net w → MayDecide net w h more → OpeningsOk net (with_decision w h more)
decide_openings net w h more ok may =
    let grown = w.decided h ++ more in
    let long = length-append (w.decided h) more in
    record {
      rises = ok.rises;
      begun = λ e x le. let a = ok.begun e x le in put_case (λ (log : List Content). w.base e x ≤ length log) w.decided h grown x (λ q. let b = ap (λ i. length (w.decided i)) q in omega arith) (λ q. a);
      lived = ok.lived;
      closed = ok.closed;
      kept = λ x is. elim (cases_eq x h) [
        | inl q ↦ subst (λ i. w.live w.top i ≡ true) (sym q) may.lives
        | inr ne ↦ ok.kept x (sym (put_there w.decided_now h true x ne) ∙ is)
      ];
      closing = λ x is. put_case (λ (log : List Content). AtLeast (quorum_in net w.top x) (FrozeBy net w.ledger w.top x (length log))) w.decided h grown x
          (λ q. rw (q, long) may.frozen)
          (λ ne. ok.closing x (sym (put_there w.decided_now h true x ne) ∙ is));
    }

-- an epoch that was opened is an old one or the new one
last_or_old : (e top : ℕ) → e ≤ top + 1 → (e ≤ top) ⊎ (e ≡ top + 1)
last_or_old e top le = elim (cases_order e (top + 1)) [
  | inl same ↦ inr same
  | inr (inl below) ↦ inl (omega arith)
  | inr (inr above) ↦ absurd (omega arith)
]

-- the tables of the new epoch
pub new_base : (w : Assembly) (h : ℕ) → (with_next_epoch w).base (w.top + 1) h ≡ length (w.decided h)
new_base w h = ap (λ (f : ℕ → ℕ). f h) (put_here w.base (w.top + 1) (λ i. length (w.decided i)))

-- the hosts that were decided live in it
new_live : (w : Assembly) (h : ℕ) → (with_next_epoch w).live (w.top + 1) h ≡ w.decided_now h
new_live w h = ap (λ (f : ℕ → Bool). f h) (put_here w.live (w.top + 1) w.decided_now)

-- the bases of old epochs stay
pub old_base : (w : Assembly) (e h : ℕ) → e ≤ w.top → (with_next_epoch w).base e h ≡ w.base e h
old_base w e h le = ap (λ (f : ℕ → ℕ). f h) (epoch_kept w.base w.top (λ i. length (w.decided i)) e le)

-- so do their hosts
pub old_live : (w : Assembly) (e h : ℕ) → e ≤ w.top → (with_next_epoch w).live e h ≡ w.live e h
old_live w e h le = ap (λ (f : ℕ → Bool). f h) (epoch_kept w.live w.top w.decided_now e le)

-- a quorum is frozen where each epoch ended, also the one that ends now
open_closed : (net : Net) (w : Assembly) → OpeningsOk net w → (e h : ℕ) → e < w.top + 1 → (with_next_epoch w).live (e + 1) h ≡ true → AtLeast (quorum_in net e h) (FrozeBy net w.ledger e h ((with_next_epoch w).base (e + 1) h))
open_closed net w ok e h lt alive = elim (last_or_old (e + 1) w.top (omega arith)) [
  | inl old ↦
      subst (λ n. AtLeast (quorum_in net e h) (FrozeBy net w.ledger e h n)) (sym (old_base w (e + 1) h old)) (ok.closed e h (omega arith) (sym (old_live w (e + 1) h old) ∙ alive))
  | inr new ↦
      let here : e ≡ w.top = omega arith in
      let is = sym (new_live w h) ∙ (sym (ap (λ n. (with_next_epoch w).live n h) new) ∙ alive) in
      let frozen = ok.closing h is in
      let at : (with_next_epoch w).base (e + 1) h ≡ length (w.decided h) = ap (λ n. (with_next_epoch w).base n h) new ∙ new_base w h in
      rw at (subst (λ n. AtLeast (quorum_in net n h) (FrozeBy net w.ledger n h (length (w.decided h)))) (sym here) frozen)
]

-- the next epoch is opened
open_openings : (net : Net) (w : Assembly) → OpeningsOk net w → OpeningsOk net (with_next_epoch w)
open_openings net w ok = record {
  rises = λ e l h le le2. elim (last_or_old l w.top le2) [
    | inl old ↦ let a = old_base w e h (omega arith) in let b = old_base w l h old in let c = ok.rises e l h le old in omega arith
    | inr new ↦
        let b : (with_next_epoch w).base l h ≡ length (w.decided h) = ap (λ n. (with_next_epoch w).base n h) new ∙ new_base w h in
        elim (last_or_old e w.top (omega arith)) [
          | inl first ↦ let a = old_base w e h first in let c = ok.begun e h first in omega arith
          | inr both ↦ let a : (with_next_epoch w).base e h ≡ length (w.decided h) = ap (λ n. (with_next_epoch w).base n h) both ∙ new_base w h in omega arith
        ]
  ];
  begun = λ e h le. elim (last_or_old e w.top le) [
    | inl old ↦ let a = old_base w e h old in let c = ok.begun e h old in omega arith
    | inr new ↦ let a : (with_next_epoch w).base e h ≡ length (w.decided h) = ap (λ n. (with_next_epoch w).base n h) new ∙ new_base w h in omega arith
  ];
  lived = λ e l h le le2 alive. elim (last_or_old l w.top le2) [
    | inl old ↦ let first : e ≤ w.top = omega arith in old_live w e h first ∙ ok.lived e l h le old (sym (old_live w l h old) ∙ alive)
    | inr new ↦
        let is = sym (new_live w h) ∙ (sym (ap (λ n. (with_next_epoch w).live n h) new) ∙ alive) in
        elim (last_or_old e w.top (omega arith)) [
          | inl first ↦ old_live w e h first ∙ ok.lived e w.top h first (omega arith) (ok.kept h is)
          | inr both ↦ ap (λ n. (with_next_epoch w).live n h) both ∙ (new_live w h ∙ is)
        ]
  ];
  closed = open_closed net w ok;
  kept = λ h is. absurd (cc);
  closing = λ h is. absurd (cc);
}

-- each event keeps this
pub openings_step : {S : Type 0} (rules : Rules S) (net : Net) (w : Assembly) (event : Event) → OpeningsOk net w → Enabled rules net w event → OpeningsOk net (after w event)
openings_step rules net w (Says g said) ok may = says_openings net w g said ok
openings_step rules net w (Logs g h c) ok may = ok
openings_step rules net w (Inherits g h c) ok may = ok
openings_step rules net w (Wedges g) ok may = ok
openings_step rules net w (Enters g to) ok may = ok
openings_step rules net w (Hands h payload) ok may = ok
openings_step rules net w TopWedges ok may = ok
openings_step rules net w (Decides h more) ok may = decide_openings net w h more ok may
openings_step rules net w (Retires h) ok may = ok
openings_step rules net w Opens ok may = open_openings net w ok

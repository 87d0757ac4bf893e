-- What is asked of a node's view, and of the Olympus where it decides, is so where the laws of guarded
-- worlds hold.
use Rattle.std.proofs.Common.{ℕ, ◌+◌, List, refl, length, sym, subst}
use Rattle.nys_bytes.specs.declared.content.Content.{Content}
use Rattle.nys_bytes.specs.declared.content.Content.TheVariants.{External, Message}
use Rattle.nys_hosts.specs.Counts.{AtLeast}
use Rattle.nys_stmt.specs.declared.statement.Body.TheVariants as body
use Rattle.nys_stmt.specs.declared.statement.FilledKind.TheVariants as kind
use Rattle.nys_rules.specs.declared.rule.Rule.TheVariants as rule
use Rattle.nys_rules.specs.Forged.{Entry}
use Rattle.nys_rules.specs.Olympus.{supports, with_decision}
use Rattle.nys_rules.specs.Scope.{quorum_at}
use Rattle.nys_rules.specs.View.{View}
use Rattle.nys_rules.specs.World.{Setting, World}
use Rattle.nys_laws.specs.Epochs.{FollowsHistory, History}
use Rattle.nys_laws.specs.Grounds.{IsBacked as IsBackedAt}
use Rattle.nys_laws.specs.Own.Stage.{Delivered}
use Rattle.nys_laws.specs.Rests.{IsSound}
use Rattle.nys_laws.specs.SetUp.{AreHosts, IsSetUp}
use Rattle.nys_laws.specs.Testimony.{IsToldTruly}
use Rattle.nys_laws.specs.Vouched.{IsFrozenAt, IsVouched}
use Rattle.nys_laws.proofs.DecisionLemmas.{decision_rests}
use Rattle.nys_laws.proofs.GroundLemmas.{has_grounds}
use Rattle.nys_follows.specs.Steps.{Decisive, Grounds, IsBacked}

-- a message that a guard may order next is backed
backed_of : {S : Type 0} (setting : Setting S) (ledger : List Entry) (v : View) (h : ℕ) (c : Content)
    → IsBackedAt setting ledger v h c → IsBacked setting ledger v.epoch h c
backed_of setting ledger v h (External payload) next = tt
backed_of setting ledger v h (Message p k payload) next = (next.0.0, next.1)

-- a sound node acts on what is asked of its view
pub grounds_of : {S : Type 0} (setting : Setting S) → AreHosts setting.scope
    → (g : ℕ) (ledger : List Entry) (v : View)
    → IsSound setting g ledger v → Grounds setting g ledger v
grounds_of setting hosts g ledger v k = record {
  offers = λ h c is. (has_grounds setting hosts g ledger v (rule.Offer h c) k is).2;
  orders = λ h c is.
      let may = has_grounds setting hosts g ledger v (rule.Order h c) k is in
      record { never = may.1; offered = may.2; backed = backed_of setting ledger v h c may.3 };
  delivers = λ h c is.
      let may = has_grounds setting hosts g ledger v (rule.Deliver h c) k is in
      record { never = may.1; backed = may.2 };
  logs = λ h c is. (has_grounds setting hosts g ledger v (rule.Log h c) k is).1;
  reports = record {
    kept = λ h c is. ((k.rests.desks h).delivered c is, k.own.own.kept Delivered h c is);
    frozen = k.rests.voted;
  };
}

-- what the Olympus decides in a world rests on what is asked of it
pub decisive_of : {S : Type 0} (setting : Setting S) → IsSetUp setting.scope → (history : History) (w : World)
    → FollowsHistory setting history w → IsToldTruly setting w → Decisive setting w
decisive_of setting set history w follows told h len is =
    let o = w.olympus in
    let more = supports setting.scope o h in
    let may = (decision_rests setting set history w follows told h len (with_decision setting.scope h o)
    (record { told = sym is; after_is = refl })).may in
    let begins = follows.top.undecided h may.open_still in
    record {
      host = may.host;
      reported = λ i c entry.
          subst
          (λ b.
          AtLeast (setting.scope.t o.epoch h + 1) (IsVouched setting w.ledger o.epoch h (body.Filled kind.Report h (b + i) c)))
          begins (may.supported i c entry);
      frozen =
          subst
          (λ b. AtLeast (quorum_at setting.scope o.epoch h) (IsFrozenAt setting w.ledger o.epoch h (b + length more)))
          begins may.frozen;
    }

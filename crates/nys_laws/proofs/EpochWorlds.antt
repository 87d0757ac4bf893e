-- In each world there is a history that it follows, and it goes on; what the Olympus keeps of guards is
-- true, and its decisions rest on it.
use Rattle.std.proofs.Common.{◌≡◌, ℕ, ◌≤◌, true, List, [], Ok, refl, sym, subst, ◌∙◌, arith}
use Rattle.nys_source.specs.Tables.{put}
use Rattle.nys_stmt.specs.declared.records.Record.{Record}
use Rattle.nys_stmt.specs.declared.statement.Body.{Body}
use Rattle.nys_stmt.specs.declared.statement.Body.TheVariants as body
use Rattle.nys_stmt.specs.declared.statement.FilledKind.TheVariants as kind
use Rattle.nys_stmt.specs.declared.tags.Tags.{Tags}
use Rattle.nys_rules.specs.declared.decision.Decision.{Decision}
use Rattle.nys_rules.specs.declared.decision.Decision.TheVariants as decide
use Rattle.nys_rules.specs.Asking.{questions}
use Rattle.nys_rules.specs.Dropping.{accepted}
use Rattle.nys_rules.specs.Events.{Plain}
use Rattle.nys_rules.specs.Handling.{acts_by}
use Rattle.nys_rules.specs.Happening.{Happens}
use Rattle.nys_rules.specs.Olympus.{after_decision, Decides, hosts_of, in_next_epoch, OlympusView, proclaimed, testified, testified_body}
use Rattle.nys_rules.specs.Packets.{nothing}
use Rattle.nys_rules.specs.Scope.{olympus, Scope}
use Rattle.nys_rules.specs.Taking.{acts_of}
use Rattle.nys_rules.specs.World.{fresh_world, Setting, World}
use Rattle.nys_laws.specs.Epochs.{AgreeUpTo, FollowsHistory, GoesOn, HasHistory, HistoriesGoOn, History}
use Rattle.nys_laws.specs.SetUp.{IsSetUp}
use Rattle.nys_laws.specs.Testimony.{DecidesTruly, IsToldTruly}
use Rattle.nys_laws.specs.Worlds.{InEachWorld}
use Rattle.nys_laws.proofs.DecisionLemmas.{decision_rests}
use Rattle.nys_laws.proofs.EventKeeping.{each_world_fact, happen_fact, happens_fact, WorldsKeep}
use Rattle.nys_laws.proofs.HistoryLemmas.{agree_same, decides_follow, epoch_agrees, first_follows, hears_follows, no_history, opens_follow, retires_follow, wedges_follow, with_epoch}
use Rattle.nys_laws.proofs.NodeHistory.{asking_follows, input_follows, record_follows, rule_follows}
use Rattle.nys_laws.proofs.TestimonyLemmas.{decision_told, more_testimony, no_testimony, same_testimony, testimony_heard}

-- where more is agreed on
agree_on : (top mid : ℕ) (history later last : History) → top ≤ mid → AgreeUpTo top history later → AgreeUpTo mid later last
    → AgreeUpTo top history last
agree_on top mid history later last le a b = record {
  base = λ e h low. b.base e h (omega (arith, le, low)) ∙ a.base e h low;
  retired = λ e h low. b.retired e h (omega (arith, le, low)) ∙ a.retired e h low;
}

-- no record changes the epoch of the Olympus
heard_epoch : (said : Body) (makers : List Tags) (o : OlympusView) → (testified_body said makers o).epoch ≡ o.epoch
heard_epoch (body.Filled kind.Offer h slot content) makers o = refl
heard_epoch (body.Filled kind.Order h slot content) makers o = refl
heard_epoch (body.Filled kind.Deliver h slot content) makers o = refl
heard_epoch (body.Filled kind.Report h slot content) makers o = refl
heard_epoch (body.Filled kind.Inherit h slot content) makers o = refl
heard_epoch (body.Attest p h k payload) makers o = refl
heard_epoch (body.Ask h slot) makers o = refl
heard_epoch body.Wedge makers o = refl
heard_epoch (body.Frozen h slot) makers o = refl
heard_epoch (body.Open lengths) makers o = refl

-- once it is noted
testified_epoch : {S : Type 0} (scope : Scope S) (o : OlympusView) (r : Record) → (testified scope o r).epoch ≡ o.epoch
unfolding testified
testified_epoch scope o r = heard_epoch r.statement.body (accepted scope r.statement.epoch olympus r) o

-- nor does a decision
decided_epoch : {S : Type 0} (scope : Scope S) (o : OlympusView) (h : ℕ) (after : OlympusView) (answer : Decision)
    → Decides scope o h after answer → after.epoch ≡ o.epoch
decided_epoch {S} scope o h after answer decides =
    subst (λ (x : OlympusView). x.epoch ≡ o.epoch) (sym decides.after_is) (by answer)
  where
    by : (answer : Decision) → (after_decision scope o h answer).epoch ≡ o.epoch
    by (decide.Decided len) = refl
    by (decide.Undecided supported frozen) = refl
    by decide.NotWedged = refl
    by decide.Settled = refl

-- each step of a world goes on with its history
pub history_steps : {S : Type 0} (setting : Setting S) → IsSetUp setting.scope → (top : ℕ) (history : History)
    → WorldsKeep setting (GoesOn setting top history)
history_steps setting set top history = record {
  rules = λ w g v rule acting is k. record {
    later = k.later;
    follows = rule_follows setting set k.later w g v rule acting is k.follows;
    same = k.same;
    rises = k.rises;
  };
  records = λ w g v r acting host is some k. record {
    later = k.later;
    follows = record_follows setting k.later w g v r acting host is some k.follows;
    same = k.same;
    rises = k.rises;
  };
  inputs = λ w g v payload may acting room k. record {
    later = k.later;
    follows = input_follows setting k.later w g v payload acting k.follows;
    same = k.same;
    rises = k.rises;
  };
  asking = λ w g v acting k. record {
    later = k.later;
    follows = asking_follows setting set k.later w g v acting k.follows;
    same = k.same;
    rises = k.rises;
  };
  hears = λ w r is some k. record {
    later = k.later;
    follows = hears_follows setting k.later w r k.follows;
    same = k.same;
    rises = subst (λ e. top ≤ e) (sym (testified_epoch setting.scope w.olympus r)) k.rises;
  };
  wedges = λ w is k. record {
    later = k.later;
    follows = wedges_follow setting k.later w k.follows;
    same = k.same;
    rises = k.rises;
  };
  decides = λ w h after answer decides k. record {
    later = k.later;
    follows = decides_follow setting k.later w h after answer decides k.follows;
    same = k.same;
    rises = subst (λ e. top ≤ e) (sym (decided_epoch setting.scope w.olympus h after answer decides)) k.rises;
  };
  retires = λ w h is k. record {
    later = k.later;
    follows = retires_follow setting k.later w h is k.follows;
    same = k.same;
    rises = k.rises;
  };
  epochs = λ w epoch is k. record {
    later = with_epoch setting.scope w.olympus k.later;
    follows = opens_follow setting k.later w epoch is k.follows;
    same = agree_on top w.olympus.epoch history k.later (with_epoch setting.scope w.olympus k.later) k.rises k.same
        (epoch_agrees setting.scope w.olympus k.later);
    rises = let rises = k.rises in omega (arith, rises);
  };
  packets = λ w event packets brings k. record {
    later = k.later;
    follows = record { top = k.follows.top; made = k.follows.made; nodes = k.follows.nodes; nobody = k.follows.nobody };
    same = k.same;
    rises = k.rises;
  };
  told = λ w events delivered injected takes notes k. record {
    later = k.later;
    follows = record { top = k.follows.top; made = k.follows.made; nodes = k.follows.nodes; nobody = k.follows.nobody };
    same = k.same;
    rises = k.rises;
  };
}

-- one event
pub history_goes_on : {S : Type 0} (setting : Setting S) → IsSetUp setting.scope → (w next : World) (event : Plain)
    (history : History) → Happens setting w event (Ok next) → FollowsHistory setting history w
    → GoesOn setting w.olympus.epoch history next
history_goes_on setting set w next event history happens follows =
    happens_fact setting (GoesOn setting w.olympus.epoch history) (history_steps setting set w.olympus.epoch history) w next event
    happens (record {
      later = history;
      follows = follows;
      same = agree_same w.olympus.epoch history;
      rises = omega arith;
    })

-- whatever events follow
pub histories_go_on : {S : Type 0} (setting : Setting S) → IsSetUp setting.scope → HistoriesGoOn setting
histories_go_on setting set events w next history happen follows =
    happen_fact setting (GoesOn setting w.olympus.epoch history) (history_steps setting set w.olympus.epoch history) w next events
    happen (record {
      later = history;
      follows = follows;
      same = agree_same w.olympus.epoch history;
      rises = omega arith;
    })

-- each world follows a history
pub have_history : {S : Type 0} (setting : Setting S) → IsSetUp setting.scope → InEachWorld setting (HasHistory setting)
have_history setting set events w happen =
    let on = histories_go_on setting set events (fresh_world setting) w no_history happen (first_follows setting set) in
    (on.later, on.follows)

-- each step of a world keeps what the Olympus is told true
pub told_steps : {S : Type 0} (setting : Setting S) → IsSetUp setting.scope → WorldsKeep setting (IsToldTruly setting)
told_steps setting set = record {
  rules = λ w g v rule acting is k. more_testimony setting g (acts_of setting.scope v rule).made w.ledger w.olympus k;
  records = λ w g v r acting host is some k. more_testimony setting g (acts_by setting.scope v r).made w.ledger w.olympus k;
  inputs = λ w g v payload may acting room k. more_testimony setting g nothing.made w.ledger w.olympus k;
  asking = λ w g v acting k. more_testimony setting g (questions setting.scope v).made w.ledger w.olympus k;
  hears = λ w r is some k. testimony_heard setting set w r is some k;
  wedges = λ w is k.
      let acts = proclaimed setting.scope w.olympus.epoch body.Wedge (hosts_of setting.scope) in
      more_testimony setting olympus acts.made w.ledger (record w.olympus { wedged = true })
      (same_testimony setting w.ledger w.olympus true w.olympus.decided w.olympus.decided_now w.olympus.retired k);
  decides = λ w h after answer decides k. decision_told setting w.ledger w.olympus h after answer decides k;
  retires = λ w h is k.
      same_testimony setting w.ledger w.olympus w.olympus.wedged w.olympus.decided w.olympus.decided_now
      (put w.olympus.retired h true) k;
  epochs = λ w epoch is k.
      no_testimony setting _ (in_next_epoch w.olympus) (λ h slot. refl) (λ h. refl);
  packets = λ w event packets brings k. k;
  told = λ w events delivered injected takes notes k. k;
}

-- it is true in each world
pub told_truly : {S : Type 0} (setting : Setting S) → IsSetUp setting.scope → InEachWorld setting (IsToldTruly setting)
unfolding fresh_world
told_truly setting set =
    each_world_fact setting (IsToldTruly setting)
    (no_testimony setting [] (fresh_world setting).olympus (λ h slot. refl) (λ h. refl)) (told_steps setting set)

-- so what is decided next rests on what guards said
pub decide_truly : {S : Type 0} (setting : Setting S) → IsSetUp setting.scope → InEachWorld setting (DecidesTruly setting)
decide_truly setting set events w happen history follows h len after decides =
    decision_rests setting set history w follows (told_truly setting set events w happen) h len after decides

-- What is asked of a scenario gives what the laws ask of it; and what is asked of nodes and of the Olympus
-- is so in each of its worlds, step by step.
use Rattle.std.proofs.Common.{◌≡◌, ◌≢◌, ℕ, ◌<◌, ◌≤◌, ◌⊎◌, ◌&&◌, Bool, true, false, [], refl, inl, inr, arith}
use Rattle.std.proofs.lemmas.Bool.{cases_order}
use Rattle.nys_hosts.proofs.CountLemmas.{hosts_with-none}
use Rattle.nys_hosts.specs.Quorums.{liars_among}
use Rattle.nys_agreement.specs.Net.{HasFewLiars}
use Rattle.nys_rules.specs.Premises.{net_of}
use Rattle.nys_rules.specs.Scope.{olympus}
use Rattle.nys_rules.specs.World.{fresh_world, Setting, World}
use Rattle.nys_laws.specs.Epochs.{HasHistory, History}
use Rattle.nys_laws.specs.Rests.{AreSound}
use Rattle.nys_laws.specs.SetUp.{AreHosts, IsSetUp}
use Rattle.nys_laws.specs.Testimony.{IsToldTruly}
use Rattle.nys_laws.specs.Worlds.{InEachWorld}
use Rattle.nys_laws.proofs.EpochWorlds.{have_history, history_steps, told_truly}
use Rattle.nys_laws.proofs.EventKeeping.{WorldsKeep}
use Rattle.nys_laws.proofs.HistoryLemmas.{agree_same}
use Rattle.nys_laws.proofs.RestsWorlds.{are_sound}
use Rattle.nys_laws.specs.Epochs.{GoesOn}
use Rattle.nys_follows.specs.Follows.{IsFollowable, IsTruthful}
use Rattle.nys_follows.specs.Scenario.{IsScenario}
use Rattle.nys_follows.specs.Steps.{Decisive, Grounds}
use Rattle.nys_follows.proofs.Feeding.{decisive_of, grounds_of}

-- its guards are hosts
pub hosts_of_scenario : {S : Type 0} (setting : Setting S) → IsScenario setting → AreHosts setting.scope
hosts_of_scenario setting asked = record { few = asked.hosts; guards = λ e h m is. (asked.guards e h m is).guard }

-- it is set up
pub set_up_of : {S : Type 0} (setting : Setting S) → IsScenario setting → IsSetUp setting.scope
set_up_of setting asked = record { some = asked.some; hosts = hosts_of_scenario setting asked }

-- who doesn't guard is no liar among guards
no_guard : {S : Type 0} (setting : Setting S) (e h m : ℕ)
    → (setting.scope.guards e h m ≡ true → ⊥) → (setting.scope.guards e h m && setting.liars m) ≡ false
no_guard {S} setting e h m never = by (setting.scope.guards e h m) refl
  where
    by : (b : Bool) → setting.scope.guards e h m ≡ b → (b && setting.liars m) ≡ false
    by true is = absurd (never is)
    by false is = refl

-- where there are no guards none of them lies
none_lies : {S : Type 0} (setting : Setting S) (e h : ℕ) → ((m : ℕ) → setting.scope.guards e h m ≡ true → ⊥)
    → liars_among (setting.scope.guards e h) setting.liars ≤ setting.scope.t e h
none_lies setting e h never =
    let none = hosts_with-none (λ m. setting.scope.guards e h m && setting.liars m)
    (λ m low. no_guard setting e h m (never m)) in
    omega (arith, none)

-- a number is below another or not
pub low_or_not : (a b : ℕ) → (a < b) ⊎ (b ≤ a)
low_or_not a b = elim (cases_order a b) [
  | inl same ↦ inr (omega (arith, same))
  | inr (inl lt) ↦ inl lt
  | inr (inr gt) ↦ inr (omega (arith, gt))
]

-- nowhere do more guards lie than they stand
pub few_liars_of : {S : Type 0} (setting : Setting S) → IsScenario setting → HasFewLiars (net_of setting)
few_liars_of setting asked = record {
  few = λ e h. elim (low_or_not e setting.scope.epochs) [
    | inl early ↦ elim (low_or_not h setting.scope.rules.hosts) [
      | inl low ↦ asked.few e early h low
      | inr high ↦ none_lies setting e h
          (λ m is. let within = (asked.guards e h m is).host in omega (arith, within, high))
    ]
    | inr late ↦ none_lies setting e h
        (λ m is. let within = (asked.guards e h m is).epoch in omega (arith, within, late))
  ];
}

-- what is asked where worlds follow the machine
pub followable_of : {S : Type 0} (setting : Setting S) → IsScenario setting → IsFollowable setting
followable_of setting asked = record { hosts = asked.hosts; few = few_liars_of setting asked }

-- what the laws tell of a world
pub record IsKnown {S : Type 0} (setting : Setting S) (w : World) : Type 0 where
  pub sound : AreSound setting w
  pub told : IsToldTruly setting w
  pub history : HasHistory setting w

-- a host is no Olympus
pub no_olympus : {S : Type 0} (setting : Setting S) → IsScenario setting → (g : ℕ)
    → IsTruthful setting g → g ≢ olympus
no_olympus setting asked g honest same =
    let low = honest.host in let hosts = asked.hosts in omega (arith, low, hosts, same)

-- the node of each honest host of such a world acts on what is asked of its view
pub grounds_known : {S : Type 0} (setting : Setting S) → IsScenario setting → (w : World) → IsKnown setting w
    → (g : ℕ) → IsTruthful setting g → Grounds setting g w.ledger (w.nodes g)
grounds_known setting asked w k g honest =
    grounds_of setting (hosts_of_scenario setting asked) g w.ledger (w.nodes g)
    (k.sound g (no_olympus setting asked g honest))

-- what the Olympus of such a world decides rests on what is asked of it
pub decisive_known : {S : Type 0} (setting : Setting S) → IsScenario setting → (w : World) → IsKnown setting w
    → Decisive setting w
decisive_known setting asked w k =
    decisive_of setting (set_up_of setting asked) k.history.0 w k.history.1 k.told

-- each world is known so
pub known_worlds : {S : Type 0} (setting : Setting S) → IsScenario setting
    → InEachWorld setting (IsKnown setting)
known_worlds setting asked events w happen = record {
  sound = are_sound setting (hosts_of_scenario setting asked) events w happen;
  told = told_truly setting (set_up_of setting asked) events w happen;
  history = have_history setting (set_up_of setting asked) events w happen;
}

-- the first world is
pub known_first : {S : Type 0} (setting : Setting S) → IsScenario setting
    → IsKnown setting (fresh_world setting)
known_first setting asked = known_worlds setting asked [] (fresh_world setting) refl

-- a world with a history goes on from it
on_from : {S : Type 0} (setting : Setting S) (w : World) (k : HasHistory setting w) → GoesOn setting 0 k.0 w
on_from setting w k = record { later = k.0; follows = k.1; same = agree_same 0 k.0; rises = omega arith }

-- and where it goes on it has one
has_on : {S : Type 0} (setting : Setting S) (history : History) (w : World) → GoesOn setting 0 history w
    → HasHistory setting w
has_on setting history w k = (k.later, k.follows)

-- each step of a world keeps that it has a history
pub history_keeps : {S : Type 0} (setting : Setting S) → IsSetUp setting.scope
    → WorldsKeep setting (HasHistory setting)
history_keeps {S} setting set = record {
  rules = λ w g v rule acting is k. has_on setting k.0 _ ((on k.0).rules w g v rule acting is (on_from setting w k));
  records = λ w g v r acting host is some k.
      has_on setting k.0 _ ((on k.0).records w g v r acting host is some (on_from setting w k));
  inputs = λ w g v payload may acting room k.
      has_on setting k.0 _ ((on k.0).inputs w g v payload may acting room (on_from setting w k));
  asking = λ w g v acting k. has_on setting k.0 _ ((on k.0).asking w g v acting (on_from setting w k));
  hears = λ w r is some k. has_on setting k.0 _ ((on k.0).hears w r is some (on_from setting w k));
  wedges = λ w is k. has_on setting k.0 _ ((on k.0).wedges w is (on_from setting w k));
  decides = λ w h after answer decides k.
      has_on setting k.0 _ ((on k.0).decides w h after answer decides (on_from setting w k));
  retires = λ w h is k. has_on setting k.0 _ ((on k.0).retires w h is (on_from setting w k));
  epochs = λ w epoch is k. has_on setting k.0 _ ((on k.0).epochs w epoch is (on_from setting w k));
  packets = λ w event packets brings k.
      has_on setting k.0 _ ((on k.0).packets w event packets brings (on_from setting w k));
  told = λ w events delivered injected takes notes k.
      has_on setting k.0 _ ((on k.0).told w events delivered injected takes notes (on_from setting w k));
}
  where
    on : (history : History) → WorldsKeep setting (GoesOn setting 0 history)
    on history = history_steps setting set 0 history

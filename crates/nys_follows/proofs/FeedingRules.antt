-- Each rule that is due at the node of an honest host of a world is followed: what is asked of the view is
-- known, and the machine goes along with the one rule.
use Rattle.std.proofs.Common.{◌≡◌, ℕ, subst}
use Rattle.nys_agreement.specs.Assembly as machine
use Rattle.nys_rules.specs.Taking.{acts_of, taken}
use Rattle.nys_rules.specs.View.{View}
use Rattle.nys_rules.specs.World.{Setting, World}
use Rattle.nys_rules.proofs.DueLemmas.{due_enabled}
use Rattle.nys_laws.proofs.GrownLemmas.{with_step}
use Rattle.nys_follows.specs.Follows.{IsTruthful, Tracks}
use Rattle.nys_follows.specs.Scenario.{IsScenario}
use Rattle.nys_follows.specs.Steps.{Grounds}
use Rattle.nys_follows.proofs.FeedingFollows.{RulesFollow}
use Rattle.nys_follows.proofs.FeedingWorlds.{followable_of, grounds_known}
use Rattle.nys_follows.proofs.LeadingLemmas.{LeadsStill}
use Rattle.nys_follows.proofs.SettleLemmas.{extends_same, rule_stage}
use Rattle.nys_follows.proofs.StageLemmas.{Scene, Stage, staged, unstaged}

-- events that lead to a fact lead to what follows from it
pub leads_to : {S : Type 0} (setting : Setting S) (m : machine.Assembly) (Fact Next : machine.Assembly → Type 0)
    → ((x : machine.Assembly) → Fact x → Next x) → LeadsStill setting m Fact → LeadsStill setting m Next
leads_to setting m Fact Next then first =
    record { events = first.events; follows = first.follows; fact = then _ first.fact; still = first.still }

-- the node of an honest host in a world, which is to act
abbrev pub scene_of : {S : Type 0} → (setting : Setting S) → IsScenario setting → World → (g : ℕ)
    → IsTruthful setting g → Scene setting
scene_of setting asked w g honest = record {
  may = followable_of setting asked;
  nodes = w.nodes;
  top = w.olympus;
  actor = g;
  truthful = honest;
}

-- the machine has it
pub stage_of : {S : Type 0} (setting : Setting S) (asked : IsScenario setting) (w : World) (m : machine.Assembly) (g : ℕ)
    (v : View) (honest : IsTruthful setting g) → w.nodes g ≡ v → Tracks setting w m
    → Stage setting (scene_of setting asked w g honest) v w.ledger w m
stage_of setting asked w m g v honest view k =
    let scene = scene_of setting asked w g honest in
    subst (λ x. Stage setting scene x w.ledger w m) view
    (staged setting scene w.ledger w m k.nodes k.top k.ledger k.run)

-- each rule that is due is followed
pub rules_follow : {S : Type 0} (setting : Setting S) → IsScenario setting → RulesFollow setting
rules_follow setting asked w m known reached k g v rule honest view is =
    let scene = scene_of setting asked w g honest in
    let next = taken setting.scope v rule in
    let ground = subst (Grounds setting g w.ledger) view (grounds_known setting asked w known g honest) in
    leads_to setting m _ (Tracks setting (with_step g next (acts_of setting.scope v rule) w))
    (λ x s. record { nodes = unstaged setting scene next _ _ x s; top = s.top; ledger = s.told; run = s.run })
    (rule_stage setting scene v w.ledger w m reached (stage_of setting asked w m g v honest view k) ground rule next
    (due_enabled setting.scope v rule is).1 (extends_same next))

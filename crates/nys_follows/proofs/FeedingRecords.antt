-- Each record that the node of an honest host doesn't drop is followed; so each world that events make
-- follows the machine.
use Rattle.std.proofs.Common.{List, Ok, subst}
use Rattle.nys_agreement.specs.Assembly as machine
use Rattle.nys_rules.specs.Events.{Plain}
use Rattle.nys_rules.specs.Happening.{HappenAll}
use Rattle.nys_rules.specs.Handling.{acts_by}
use Rattle.nys_rules.specs.Noting.{noted}
use Rattle.nys_rules.specs.World.{Setting, World}
use Rattle.nys_laws.specs.Worlds.{InEachWorld}
use Rattle.nys_laws.proofs.GrownLemmas.{with_step}
use Rattle.nys_follows.specs.Follows.{FollowsMachine, LeadsTo, Reached, Tracks}
use Rattle.nys_follows.specs.Scenario.{IsScenario}
use Rattle.nys_follows.specs.Steps.{Grounds}
use Rattle.nys_follows.proofs.FeedingFollows.{follow_on, follow_worlds, RecordsFollow}
use Rattle.nys_follows.proofs.FeedingRules.{leads_to, rules_follow, scene_of, stage_of}
use Rattle.nys_follows.proofs.FeedingWorlds.{grounds_known, IsKnown}
use Rattle.nys_follows.proofs.RecordLemmas.{record_stage}
use Rattle.nys_follows.proofs.SettleLemmas.{extends_same}
use Rattle.nys_follows.proofs.StageLemmas.{unstaged}

-- each record that isn't dropped is followed
pub records_follow : {S : Type 0} (setting : Setting S) → IsScenario setting → RecordsFollow setting
records_follow setting asked w m known reached k g v r honest view is some =
    let scene = scene_of setting asked w g honest in
    let next = noted setting.scope v r in
    let ground = subst (Grounds setting g w.ledger) view (grounds_known setting asked w known g honest) in
    leads_to setting m _ (Tracks setting (with_step g next (acts_by setting.scope v r) w))
    (λ x s. record { nodes = unstaged setting scene next _ _ x s; top = s.top; ledger = s.told; run = s.run })
    (record_stage setting scene v next r w.ledger w m reached (stage_of setting asked w m g v honest view k) ground is
    some.made (extends_same next))

-- each world follows the machine
pub each_follows : {S : Type 0} (setting : Setting S) → IsScenario setting
    → InEachWorld setting (FollowsMachine setting)
each_follows setting asked =
    follow_worlds setting asked (rules_follow setting asked) (records_follow setting asked)

-- whatever events follow a world, the machine goes on
pub later_follows : {S : Type 0} (setting : Setting S) → IsScenario setting
    → (w next : World) (events : List Plain) → HappenAll setting w events (Ok next) → IsKnown setting w
    → (m : machine.Assembly) → Reached setting m → Tracks setting w m → LeadsTo setting m (Tracks setting next)
later_follows setting asked = follow_on setting asked (rules_follow setting asked) (records_follow setting asked)

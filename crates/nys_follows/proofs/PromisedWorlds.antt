-- Each world of a scenario keeps what worlds promise.
use Rattle.std.proofs.Common.{List}
use Rattle.nys_follows.proofs.HandedEvents.{inputs_given}
use Rattle.nys_follows.proofs.HandedWorlds.{are_near, deliver_one, hands_on, inputs_stay, says_once}
use Rattle.nys_follows.proofs.KeptLogs.{keep_from_base}
use Rattle.nys_follows.proofs.SpelledWorlds.{logs_agree, received, spelled}
use Rattle.nys_follows.specs.Promises.{IsPromised, IsPromisedOnTheWay}
use Rattle.nys_follows.specs.Scenario.{IsScenario}
use Rattle.nys_laws.specs.Worlds.{InEachWorld}
use Rattle.nys_rules.specs.Events.{Plain}
use Rattle.nys_rules.specs.World.{Setting}

-- whatever events make it
pub each_promised : {S : Type 0} (setting : Setting S) → IsScenario setting → InEachWorld setting (IsPromised setting)
each_promised setting asked events w happen = record {
  agree = logs_agree setting asked events w happen;
  once = says_once setting asked events w happen;
  one_content = deliver_one setting asked events w happen;
  near = are_near setting asked events w happen;
  spelled = spelled setting asked events w happen;
  sent = received setting asked events w happen;
  inputs = λ made again h one. inputs_given setting asked made w again h one;
  stay = inputs_stay setting asked events w happen;
  hand_over = hands_on setting asked events w happen;
  kept = keep_from_base setting asked events w happen;
}

-- so does each on the way of any events
pub each_on_the_way : {S : Type 0} (setting : Setting S) (events : List Plain) → IsScenario setting → IsPromisedOnTheWay setting events
each_on_the_way setting events asked before rest w split happen = each_promised setting asked before w happen

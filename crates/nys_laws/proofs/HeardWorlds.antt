-- In each world the nodes of hosts keep of others what is true.
use Rattle.nys_rules.specs.Asking.{questions}
use Rattle.nys_rules.specs.World.{Setting}
use Rattle.nys_laws.specs.Heard.{HearsTruly, HearTruly}
use Rattle.nys_laws.specs.Worlds.{InEachWorld}
use Rattle.nys_laws.proofs.HeardLemmas.{beside_heard, first_heard, record_heard, rule_heard}
use Rattle.nys_laws.proofs.WorldKeeping.{in_each_world, StepsKeep}

-- each step of a node keeps what is true
pub heard_steps : {S : Type 0} (setting : Setting S) → StepsKeep setting (HearsTruly setting)
heard_steps setting = record {
  beside = λ party made g ledger v ne k. beside_heard setting party made g ledger v k;
  rules = rule_heard setting;
  records = λ g ledger v r read is true_makers k.
      record_heard setting g ledger v r is true_makers k;
  inputs = λ g ledger v payload k. record { host = k.host; desks = k.desks; heard = k.heard };
  asking = λ g ledger v k. beside_heard setting g (questions setting.scope v).made g ledger v k;
}

-- all nodes do
pub hear_truly : {S : Type 0} (setting : Setting S) → InEachWorld setting (HearTruly setting)
hear_truly setting =
    in_each_world setting (HearsTruly setting) (first_heard setting) (heard_steps setting)

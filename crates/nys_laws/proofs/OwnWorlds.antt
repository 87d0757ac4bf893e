-- In each world the nodes of hosts keep their own statements as the ledger has them.
use Rattle.nys_rules.specs.World.{Setting}
use Rattle.nys_laws.specs.Once.{SayOnce}
use Rattle.nys_laws.specs.Own.{Delivered, KeepOwn, KeepsOwn, Offered, Ordered}
use Rattle.nys_laws.specs.Worlds.{InEachWorld}
use Rattle.nys_laws.proofs.ViewLemmas.{beside_own, first_own, questions_own, record_own, rule_own}
use Rattle.nys_laws.proofs.WorldKeeping.{in_each_world, StepsKeep}

-- each step of a node keeps them so
pub own_steps : {S : Type 0} (setting : Setting S) → StepsKeep setting KeepsOwn
own_steps setting = record {
  beside = beside_own;
  rules = rule_own setting.scope;
  records = λ g ledger v r read is true_makers k. record_own setting.scope g ledger v r is k;
  inputs = λ g ledger v payload k. record { host = k.host; own = k.own };
  asking = questions_own setting.scope;
}

-- all nodes do
pub keep_own : {S : Type 0} (setting : Setting S) → InEachWorld setting KeepOwn
keep_own setting = in_each_world setting KeepsOwn (first_own setting.scope) (own_steps setting)

-- so no host says two contents of one kind for a slot
pub say_once : {S : Type 0} (setting : Setting S) → InEachWorld setting SayOnce
say_once setting events w happen g host =
    let once = (keep_own setting events w happen g host).own.once in
    record { offers = once Offered; orders = once Ordered; delivers = once Delivered }

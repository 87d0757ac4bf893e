use Rattle.nys_scenario.specs.Unknown.{is_epoch_key}
use Rattle.nys_scenario.proofs.unknown.is_of_epoch.Goals as goal

pub returns : goal.returns
unfolding is_epoch_key
returns c = c.contains.ensures.value

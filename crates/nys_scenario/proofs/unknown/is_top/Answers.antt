use Rattle.nys_scenario.specs.Unknown.{is_top_key}
use Rattle.nys_scenario.proofs.unknown.is_top.Goals as goal

pub returns : goal.returns
unfolding is_top_key
returns c = c.contains.ensures.value

use Rattle.std.proofs.Common.{◌∙◌}
use Rattle.nys_world.proofs.TakingLemmas.{takes_all}
use Rattle.nys_world.proofs.world.World.takes.Goals as goal

-- all are kept where a trace is wanted
pub returns : goal.returns
returns g c = λ wanted w is. c.as_slice.ensures.value ∙ takes_all c.args.self.now.stage.traced _ _ wanted is.shows.takes

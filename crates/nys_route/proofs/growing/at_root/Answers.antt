-- The root alone is reached, and nobody has a parent.
use Rattle.std.proofs.Common.{refl}
use Rattle.nys_route.proofs.GrowthLemmas.{grown_root}
use Rattle.nys_route.proofs.growing.at_root.Goals as goal

pub returns : goal.returns
returns c = λ hosts linked. grown_root hosts linked c.args.root _ c.requires refl refl

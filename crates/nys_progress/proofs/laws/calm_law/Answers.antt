-- The law, in any scenario.
use Rattle.nys_progress.proofs.UnspoiledLaw.{takes_first_calm}
use Rattle.nys_progress.proofs.laws.calm_law.Goals as goal

pub returns : goal.returns
returns g c = record { takes = λ setting asked good tags credit. takes_first_calm setting asked good tags credit }

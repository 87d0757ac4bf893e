-- The law, in any scenario.
use Rattle.nys_progress.proofs.UnspoiledLaw.{logs_unspoiled}
use Rattle.nys_progress.proofs.laws.unspoiled_law.Goals as goal

pub returns : goal.returns
returns g c = record { logs = λ setting asked good tags. logs_unspoiled setting asked good tags }

-- The law, in any scenario.
use Rattle.nys_progress.proofs.FourLaw.{logs_in_four}
use Rattle.nys_progress.proofs.laws.four_law.Goals as goal

pub returns : goal.returns
returns g c = record { logs = λ setting asked good tags. logs_in_four setting asked good tags }

-- The law, in any scenario.
use Rattle.nys_progress.proofs.FirstInput.{takes_first_input}
use Rattle.nys_progress.proofs.laws.first_law.Goals as goal

pub returns : goal.returns
returns g c = record { takes = λ setting asked good tags credit. takes_first_input setting asked good tags credit }

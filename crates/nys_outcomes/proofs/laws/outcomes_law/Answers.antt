-- The law, at any setting.
use Rattle.nys_outcomes.proofs.OutcomeLemmas.{happen_always}
use Rattle.nys_outcomes.proofs.laws.outcomes_law.Goals as goal

pub returns : goal.returns
returns g c = record { always = λ setting few. happen_always setting few }

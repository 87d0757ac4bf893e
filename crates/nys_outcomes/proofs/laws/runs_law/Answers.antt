-- The law, at any setting.
use Rattle.nys_outcomes.proofs.RunLemmas.{runs_short}
use Rattle.nys_outcomes.proofs.laws.runs_law.Goals as goal

pub returns : goal.returns
returns g c = record { short = λ setting. runs_short setting }

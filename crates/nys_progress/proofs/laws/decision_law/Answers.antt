-- The law, in any scenario.
use Rattle.nys_progress.proofs.DecisionWorlds.{decides_where_due}
use Rattle.nys_progress.proofs.laws.decision_law.Goals as goal

pub returns : goal.returns
returns g c = record { decides = λ setting asked good. decides_where_due setting asked good }

-- The law, in any scenario.
use Rattle.nys_progress.proofs.CreditLaw.{takes_in_credit}
use Rattle.nys_progress.proofs.laws.credit_law.Goals as goal

pub returns : goal.returns
returns g c = record { credits = λ setting asked good ways. takes_in_credit setting asked good ways }

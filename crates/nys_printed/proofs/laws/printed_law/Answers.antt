-- The law, in any scenario.
use Rattle.nys_printed.proofs.PrintedLemmas.{reports_tell}
use Rattle.nys_printed.proofs.laws.printed_law.Goals as goal

pub returns : goal.returns
returns g c = record { tells = λ setting asked. reports_tell setting asked }

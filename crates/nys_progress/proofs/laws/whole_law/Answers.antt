-- The law, in any scenario.
use Rattle.nys_progress.proofs.UnspoiledLaw.{keeps_orders_whole}
use Rattle.nys_progress.proofs.laws.whole_law.Goals as goal

pub returns : goal.returns
returns g c = record { whole = λ setting asked good tags. keeps_orders_whole setting asked good tags }

-- The law, in any scenario.
use Rattle.nys_progress.proofs.OrderLaw.{orders_in_one}
use Rattle.nys_progress.proofs.laws.order_law.Goals as goal

pub returns : goal.returns
returns g c = record { orders = λ setting asked good tags. orders_in_one setting asked good tags }

-- The law, in any scenario.
use Rattle.nys_progress.proofs.RelayLaw.{relays_in_two}
use Rattle.nys_progress.proofs.laws.relay_law.Goals as goal

pub returns : goal.returns
returns g c = record { relays = λ setting asked good tags. relays_in_two setting asked good tags }

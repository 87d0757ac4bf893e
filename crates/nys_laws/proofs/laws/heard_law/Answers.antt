-- The law, in any setting.
use Rattle.nys_laws.proofs.HeardWorlds.{hear_truly}
use Rattle.nys_laws.proofs.laws.heard_law.Goals as goal

pub returns : goal.returns
returns g c = record { heard = λ setting. hear_truly setting }

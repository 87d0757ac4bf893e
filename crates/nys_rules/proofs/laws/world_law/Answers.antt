-- The law, at any setting.
use Rattle.nys_rules.proofs.WorldLemmas.{happen_once}
use Rattle.nys_rules.proofs.laws.world_law.Goals as goal

pub returns : goal.returns
returns g c = record { once = λ setting. happen_once setting }

-- The law, in any scenario.
use Rattle.nys_follows.proofs.PromisedWorlds.{each_promised}
use Rattle.nys_follows.proofs.laws.worlds_law.Goals as goal

pub returns : goal.returns
returns g c = record { promised = λ setting asked. each_promised setting asked }

-- The law, in any scenario.
use Rattle.nys_progress.proofs.CleanWorlds.{spoils_nothing}
use Rattle.nys_progress.proofs.laws.clean_law.Goals as goal

pub returns : goal.returns
returns g c = record { clean = λ setting asked. spoils_nothing setting asked.some asked.hosts }

-- The law, in any setting.
use Rattle.nys_laws.proofs.EntryWorlds.{forget}
use Rattle.nys_laws.proofs.laws.entries_law.Goals as goal

pub returns : goal.returns
returns g c = record { forgets = λ setting. forget setting }

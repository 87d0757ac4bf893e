-- The law, in any setting.
use Rattle.nys_laws.proofs.GroundLemmas.{has_grounds}
use Rattle.nys_laws.proofs.RestsWorlds.{are_sound}
use Rattle.nys_laws.proofs.TellingLemmas.{told_on_grounds}
use Rattle.nys_laws.proofs.laws.rests_law.Goals as goal

pub returns-clause-sound : goal.returns-clause-sound
returns-clause-sound g c = λ setting hosts. are_sound setting hosts

pub returns-clause-grounds : goal.returns-clause-grounds
returns-clause-grounds g c = λ setting hosts. has_grounds setting hosts

pub returns-clause-tells : goal.returns-clause-tells
returns-clause-tells g c = λ setting. told_on_grounds setting

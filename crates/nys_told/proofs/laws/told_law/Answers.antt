-- The law, in any setting.
use Rattle.nys_told.proofs.RunSteps.{stop_nobody}
use Rattle.nys_told.proofs.ToldWorlds.{tell_olympus}
use Rattle.nys_told.proofs.laws.told_law.Goals as goal

pub returns-clause-told : goal.returns-clause-told
returns-clause-told g c = λ setting. tell_olympus setting

pub returns-clause-stops : goal.returns-clause-stops
returns-clause-stops g c = λ setting. stop_nobody setting

-- The law, in any setting.
use Rattle.nys_laws.proofs.OwnWorlds.{keep_own, say_once}
use Rattle.nys_laws.proofs.SinceLemmas.{leave_epochs}
use Rattle.nys_laws.proofs.laws.own_law.Goals as goal

pub returns-clause-kept : goal.returns-clause-kept
returns-clause-kept g c = λ setting. keep_own setting

pub returns-clause-once : goal.returns-clause-once
returns-clause-once g c = λ setting. say_once setting

pub returns-clause-epochs : goal.returns-clause-epochs
returns-clause-epochs g c = λ setting. leave_epochs setting

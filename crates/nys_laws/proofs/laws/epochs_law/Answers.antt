-- The law, in any setting that is set up.
use Rattle.nys_laws.proofs.EpochWorlds.{decide_truly, have_history, histories_go_on, told_truly}
use Rattle.nys_laws.proofs.OlympusLemmas.{opens_in_order}
use Rattle.nys_laws.proofs.laws.epochs_law.Goals as goal

pub returns-clause-history : goal.returns-clause-history
returns-clause-history g c = λ setting set. have_history setting set

pub returns-clause-later : goal.returns-clause-later
returns-clause-later g c = λ setting set. histories_go_on setting set

pub returns-clause-told : goal.returns-clause-told
returns-clause-told g c = λ setting set. told_truly setting set

pub returns-clause-decisions : goal.returns-clause-decisions
returns-clause-decisions g c = λ setting set. decide_truly setting set

pub returns-clause-openings : goal.returns-clause-openings
returns-clause-openings g c = λ scope. opens_in_order scope

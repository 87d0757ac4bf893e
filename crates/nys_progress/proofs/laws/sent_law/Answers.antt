-- The law, in any setting.
use Rattle.nys_progress.proofs.SentWorlds.{said_is_sent}
use Rattle.nys_progress.proofs.laws.sent_law.Goals as goal

pub returns : goal.returns
returns g c = record { sent = λ setting hosts. said_is_sent setting hosts }

-- a message fits where it is the next one
use Rattle.nys_replica.proofs.replica.Replica.fits.Goals as goal

pub returns-in-Message : goal.returns-in-Message
returns-in-Message g c = rw c.in-Message.is (record { fits = λ h log stands. c.is_next.ensures h log c.in-Message.payload stands })

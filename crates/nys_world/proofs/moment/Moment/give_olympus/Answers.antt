-- It is dropped by its head, or heard.
use Rattle.nys_world.proofs.moment.Moment.give_olympus.Goals as goal

-- the head tells the cause
pub give_unheard-requires : goal.give_unheard-requires
give_unheard-requires g c = record { unheard = c.in-Some.ensures }

-- It is dropped by its head, or given to the node.
use Rattle.nys_world.proofs.moment.Moment.give_host.Goals as goal

-- the head tells the cause
pub give_dropped-requires : goal.give_dropped-requires
give_dropped-requires g c = record { dropped = c.in-Some.ensures }

-- The head that stands beside the packet is that of its record.
use Rattle.std.proofs.lemmas.Option.{IfSome_then}
use Rattle.nys_world.specs.Given.{bytes_given}
use Rattle.nys_world.proofs.moment.Moment.known_unheard.Goals as goal

-- the Olympus drops it
pub returns-in-Some : goal.returns-in-Some
returns-in-Some g c =
    IfSome_then c.drops.result c.drops.ensures.handled (λ cause drops w s.
    drops w.olympus s.olympus (bytes_given w c.args.packet) (c.in-Some.ensures w s.books))

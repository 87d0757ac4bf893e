use Rattle.nys_rules.specs.World.{fresh_world}
use Rattle.nys_world.proofs.world.World.fresh.Goals as goal

-- no event happened
pub returns-clause-none : goal.returns-clause-none
unfolding fresh_world
returns-clause-none g c = c.in_ok-moment.ensures.books.events

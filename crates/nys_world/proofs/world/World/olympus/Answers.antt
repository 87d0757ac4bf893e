use Rattle.nys_world.proofs.world.World.olympus.Goals as goal

-- the Olympus is that of the world
pub returns : goal.returns
returns g c = λ w is. is.shows.olympus

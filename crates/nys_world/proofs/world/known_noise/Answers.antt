use Rattle.nys_world.specs.Shows.{setting_of}
use Rattle.nys_world.proofs.world.known_noise.Goals as goal

-- the law, at the scenario of the stage
pub returns : goal.returns
returns g c = c.noise_law.ensures.nothing (setting_of (g.P.Protocol.rules c.args.stage.now.cx.protocol) c.args.stage.now)

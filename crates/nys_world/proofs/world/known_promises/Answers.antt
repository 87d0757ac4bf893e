use Rattle.nys_world.specs.Shows.{setting_of}
use Rattle.nys_world.proofs.world.known_promises.Goals as goal

-- what is promised of each world is promised of one that events make
pub returns : goal.returns
returns g c = λ scenario w reached.
    let setting = setting_of (g.P.Protocol.rules c.args.stage.now.cx.protocol) c.args.stage.now in
    c.worlds_law.ensures.promised setting scenario reached.events w reached.happen

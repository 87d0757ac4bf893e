use Rattle.std.proofs.Common.{map}
use Rattle.nys_rules.specs.Events.{plain}
use Rattle.nys_world.specs.Shows.{setting_of}
use Rattle.nys_world.proofs.ReachedWorlds.{reached_more}
use Rattle.nys_world.proofs.world.World.run_all.Goals as goal

-- the events happen behind those that made the world
pub returns-clause-happens : goal.returns-clause-happens
returns-clause-happens g c = λ w is.
    let setting = setting_of (g.P.Protocol.rules c.args.self.stage.cx.protocol) c.args.self.stage in
    let x = c.in_ok-run_all.ensures w is.shows in (
      x.0,
      x.1,
      record { shows = x.2; reached = reached_more setting w x.0 (map plain c.args.events.items) is.reached x.1 },
    )

-- events make the world
pub returns-clause-promised : goal.returns-clause-promised
returns-clause-promised g c = λ scenario w is. c.known_promises.ensures scenario w is.reached

-- The first parties, and empty books.
use Rattle.nys_rules.specs.Olympus.{first_olympus}
use Rattle.nys_rules.specs.View.{first_view}
use Rattle.nys_rules.specs.World.{fresh_world}
use Rattle.nys_world.specs.Shows.{setting_of}
use Rattle.nys_world.proofs.TakingLemmas.{takes_none}
use Rattle.nys_world.proofs.moment.Moment.new.Goals as goal

pub returns : goal.returns
unfolding fresh_world
returns g c =
    let setting = setting_of (g.P.Protocol.rules c.args.stage.now.cx.protocol) c.args.stage.now in record {
      nodes = c.in_ok-first_nodes.ensures;
      olympus = c.in_ok-new.ensures.view;
      books = c.in_ok-new-2.ensures (first_view setting.scope) first_olympus;
      takes = takes_none c.args.stage.now.traced _ c.new-3.ensures.items;
    }

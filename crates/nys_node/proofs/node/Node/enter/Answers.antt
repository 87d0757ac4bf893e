-- The epoch begins, and then its links.
use Rattle.nys_rules.specs.Noting.{bases, retirements}
use Rattle.nys_rules.specs.View.{entering}
use Rattle.nys_node.specs.Entering.{entered}
use Rattle.nys_config.specs.Scopes.{scope_of}
use Rattle.nys_node.proofs.node.Node.enter.Goals as goal

pub returns : goal.returns
unfolding entering
returns g c = λ v k.
    c.begin_links.ensures
    (entered (scope_of (g.P.Protocol.rules c.args.cx.now.protocol) c.args.cx.now) c.args.epoch (bases c.args.lengths.now) (retirements c.args.lengths.now) v)
    (c.in_ok-begin_epoch.ensures v k)

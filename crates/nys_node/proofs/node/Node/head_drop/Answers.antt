use Rattle.nys_config.specs.Scopes.{scope_of}
use Rattle.nys_node.proofs.node.Node.head_drop.Goals as goal

-- what is said of a content has the tests of its kind
pub returns-in-Filled : goal.returns-in-Filled
returns-in-Filled g c = λ v m.
    rw c.in-Filled.is (c.filled_head_drop.ensures (scope_of (g.P.Protocol.rules c.args.cx.now.protocol) c.args.cx.now) v m c.args.head.now.p)

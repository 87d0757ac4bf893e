use Rattle.nys_node.specs.Means.{IsViewOf}
use Rattle.nys_config.specs.Scopes.{scope_of}
use Rattle.nys_node.specs.Settled.{IsSettling}
use Rattle.nys_node.specs.Weight.{node_weight}
use Rattle.nys_rules.specs.View.{View}
use Rattle.nys_node.proofs.node.Node.settle.Given as goal

-- each view that the node had is settling
abbrev pub invariant-loop-rule : goal.invariant-loop-rule
invariant-loop-rule g l = let scope = scope_of (g.P.Protocol.rules l.cx.protocol) l.cx in
    (v : View) → IsViewOf scope l.fn.self v → IsSettling scope l.self v l.fn.out l.out

-- each rule lowers what the node may still do
abbrev pub decreases-loop-rule : goal.decreases-loop-rule
decreases-loop-rule g l = node_weight l.self

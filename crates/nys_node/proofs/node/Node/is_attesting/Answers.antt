use Rattle.nys_config.specs.Scopes.{scope_of}
use Rattle.nys_rules.specs.View.{is_attesting}
use Rattle.nys_node.proofs.LinkTests.{second_tells}
use Rattle.nys_node.proofs.node.Node.is_attesting.Goals as goal

-- both hosts are guarded, and both logs have reached their bases
pub returns-then-guards_link : goal.returns-then-guards_link
unfolding scope_of is_attesting
returns-then-guards_link g c = λ v m.
    second_tells _ _ _ _ c.if-guards_link.true (c.guards_link.ensures.value v m)
    (c.have_reached.ensures (scope_of (g.P.Protocol.rules c.args.cx.now.protocol) c.args.cx.now) v m)

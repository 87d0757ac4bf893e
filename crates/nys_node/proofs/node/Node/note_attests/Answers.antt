use Rattle.nys_rules.specs.Noting.{with_attests}
use Rattle.nys_config.specs.Scopes.{scope_of}
use Rattle.nys_node.proofs.node.Node.note_attests.Goals as goal

-- what is attested is heard, then heads are recorded
pub returns : goal.returns
returns g c = λ v m.
    c.record_heads.ensures (with_attests c.args.p c.args.h c.args.k c.args.payload.now c.args.makers.now v)
    (c.in_ok-hear.ensures (scope_of (g.P.Protocol.rules c.args.cx.now.protocol) c.args.cx.now) v m)

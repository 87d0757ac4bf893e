use Rattle.std.proofs.Common.{◌∙◌, ap, arith}
use Rattle.nys_config.proofs.Graphs.{far_receiver, far_sender}
use Rattle.nys_config.proofs.scope.linked.Goals as goal

-- the sender is past the last host
pub returns-then-p-hosts : goal.returns-then-p-hosts
returns-then-p-hosts g c = far_sender _ _ c.hosts.ensures.shape c.args.p c.args.h (omega (arith, c.if-p-hosts.true, c.hosts.ensures.count))
    ∙ ap (λ l. l c.args.p c.args.h) c.graph-graph.ensures.linked

-- the receiver is past the last host
pub returns-then-h-hosts : goal.returns-then-h-hosts
returns-then-h-hosts g c = far_receiver _ _ c.hosts.ensures.shape c.args.p c.args.h (omega (arith, c.if-h-hosts.true, c.hosts.ensures.count, c.hosts-2.ensures.count))
    ∙ ap (λ l. l c.args.p c.args.h) c.graph-graph.ensures.linked

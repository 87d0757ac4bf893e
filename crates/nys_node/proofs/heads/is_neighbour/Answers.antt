use Rattle.std.proofs.Common.{◌∙◌, ap, arith}
use Rattle.nys_config.proofs.Graphs.{far_sender}
use Rattle.nys_node.proofs.heads.is_neighbour.Goals as goal

-- the sender is past the last host
pub returns-then-p-hosts-clause-value : goal.returns-then-p-hosts-clause-value
returns-then-p-hosts-clause-value g c = far_sender _ _ c.hosts.ensures.shape c.args.p c.args.h (omega (arith, c.if-p-hosts.true, c.hosts.ensures.count))
    ∙ ap (λ l. l c.args.p c.args.h) c.graph-graph.ensures.linked

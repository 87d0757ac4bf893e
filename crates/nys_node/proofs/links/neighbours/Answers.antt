use Rattle.std.proofs.Common.{◌∙◌, ap, arith}
use Rattle.nys_config.proofs.Graphs.{far_receiver}
use Rattle.nys_node.proofs.MaskLemmas.{no_host}
use Rattle.nys_node.proofs.links.neighbours.Goals as goal

-- nobody is a neighbour of a host past the last
pub returns-then-h-hosts : goal.returns-then-h-hosts
returns-then-h-hosts g c p = no_host p
    ∙ far_receiver _ _ c.hosts.ensures.shape p c.args.h (omega (arith, c.if-h-hosts.true, c.hosts.ensures.count))
    ∙ ap (λ l. l p c.args.h) c.graph-graph.ensures.linked

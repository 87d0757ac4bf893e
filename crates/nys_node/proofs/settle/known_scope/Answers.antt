-- The graph of the protocol and its law make a scope.
use Rattle.std.proofs.Common.{subst}
use Rattle.nys_graph.specs.Links.{IsGraph}
use Rattle.nys_node.proofs.SoundScope.{scope_is}
use Rattle.nys_node.proofs.settle.known_scope.Goals as goal

pub returns : goal.returns
returns g c = scope_is (g.P.Protocol.rules c.args.cx.now.protocol) c.args.cx.now c.requires
    (subst (λ n. IsGraph n (g.P.Protocol.rules c.args.cx.now.protocol).linked) c.graph.ensures.hosts
    (subst (λ l. IsGraph c.graph.result.now.hosts l) c.graph.ensures.linked c.hosts-hosts.ensures.shape))
    (λ h s from payload low. g.met.P.Protocol.effects c.args.cx.now.protocol h s from payload low)

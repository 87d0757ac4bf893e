use Rattle.nys_config.specs.Scopes.{scope_of}
use Rattle.nys_node.proofs.LinkLemmas.{means_link}
use Rattle.nys_node.proofs.node.Node.begin_link.Goals as goal

-- the range of one link changes
pub returns : goal.returns
returns g c = means_link (scope_of (g.P.Protocol.rules c.args.cx.now.protocol) c.args.cx.now) c.args.self.now c.put.new.self c.args.p c.args.h
    c.begun-range.result c.put.ensures c.begun-range.ensures c.requires.sender c.requires.host

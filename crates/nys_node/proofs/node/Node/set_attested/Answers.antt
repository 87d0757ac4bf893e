use Rattle.nys_node.proofs.OwnActs.{means_attested}
use Rattle.nys_node.proofs.node.Node.set_attested.Goals as goal

-- one link changes
pub returns-clause-node : goal.returns-clause-node
returns-clause-node g c = λ scope v m.
    means_attested scope c.args.self.now c.put.new.self c.args.p c.args.h c.get.result c.one_more-range.result c.put.ensures c.get.ensures c.one_more-range.ensures
    c.requires.sender c.requires.host v m

use Rattle.nys_node.proofs.OwnActs.{means_voted}
use Rattle.nys_node.proofs.node.Node.set_voted_to.Goals as goal

-- one number changes
pub returns-clause-node : goal.returns-clause-node
returns-clause-node g c = λ scope v m. means_voted scope c.args.self.now c.args.h c.args.length c.requires.host v m

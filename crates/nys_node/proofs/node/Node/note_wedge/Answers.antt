use Rattle.nys_node.proofs.KeptLemmas.{means_wedge}
use Rattle.nys_node.proofs.node.Node.note_wedge.Goals as goal

-- the epoch ends
pub returns : goal.returns
returns g c = λ scope v m. means_wedge scope c.args.self.now v m

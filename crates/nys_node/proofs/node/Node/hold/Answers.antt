use Rattle.nys_rules.specs.Noting.{with_held}
use Rattle.nys_node.proofs.Desks.{means_desk}
use Rattle.nys_node.proofs.node.Node.hold.Goals as goal

-- one desk changes
pub returns : goal.returns
returns g c = λ scope v m.
    means_desk scope c.args.self.now c.args.h c.index_mut.result.now c.hold.new.self (with_held c.args.content) c.requires.host c.index_mut.ensures.value c.hold.ensures v m

use Rattle.nys_node.proofs.Desks.{means_desk}
use Rattle.nys_rules.specs.Taking.{with_sent}
use Rattle.nys_node.proofs.node.Node.set_sent.Goals as goal

-- one desk changes
pub returns : goal.returns
returns g c = λ scope v m.
    means_desk scope c.args.self.now c.args.h c.index_mut.result.now c.mark_sent.new.self with_sent c.requires.host c.index_mut.ensures.value c.mark_sent.ensures v m

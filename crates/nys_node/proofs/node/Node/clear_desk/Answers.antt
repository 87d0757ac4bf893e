use Rattle.nys_rules.specs.View.{empty_desk}
use Rattle.nys_node.proofs.Desks.{means_desk}
use Rattle.nys_node.proofs.node.Node.clear_desk.Goals as goal

-- one desk changes
pub returns : goal.returns
returns g c = λ scope v m.
    means_desk scope c.args.self.now c.args.h c.index_mut.result.now c.new.result (λ _. empty_desk) c.requires.host c.index_mut.ensures.value c.new.ensures v m

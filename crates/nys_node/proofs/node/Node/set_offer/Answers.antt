use Rattle.nys_node.proofs.Desks.{means_desk}
use Rattle.nys_rules.specs.Taking.{with_offer}
use Rattle.nys_node.proofs.node.Node.set_offer.Goals as goal

-- one desk changes
pub returns : goal.returns
returns g c = λ scope v m.
    means_desk scope c.args.self.now c.args.h c.index_mut.result.now c.offer.new.self (with_offer c.args.content) c.requires.host c.index_mut.ensures.value c.in_ok-offer.ensures v m

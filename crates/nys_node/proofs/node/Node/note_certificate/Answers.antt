use Rattle.nys_rules.specs.Noting.{with_certificate}
use Rattle.nys_node.proofs.Desks.{means_desk}
use Rattle.nys_node.proofs.node.Node.note_certificate.Goals as goal

-- one desk changes
pub returns : goal.returns
returns g c = λ scope v m.
    means_desk scope c.args.self.now c.args.h c.index_mut.result.now c.note_certificate.new.self (with_certificate c.args.quorum c.args.content c.args.makers.now) c.requires.host c.index_mut.ensures.value c.note_certificate.ensures v m

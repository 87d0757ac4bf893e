use Rattle.nys_rules.specs.Noting.{with_votes}
use Rattle.nys_node.proofs.Desks.{means_desk}
use Rattle.nys_node.proofs.node.Node.note_votes.Goals as goal

-- one desk changes
pub returns : goal.returns
returns g c = λ scope v m.
    means_desk scope c.args.self.now c.args.h c.index_mut.result.now c.note_votes.new.self (with_votes c.args.content.now c.args.makers.items) c.requires.host c.index_mut.ensures.value c.in_ok-note_votes.ensures v m

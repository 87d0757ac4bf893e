use Rattle.nys_node.proofs.KeptLemmas.{means_kept}
use Rattle.nys_node.proofs.node.Node.keep_slot.Goals as goal

-- one slot more is kept
pub returns : goal.returns
returns g c = λ scope v m.
    means_kept scope c.args.self.now c.args.h c.args.content.now c.index_mut.result.now c.push.new.self c.in_ok-kept.kept c.requires.host c.index_mut.ensures.value
    c.in_ok-push.ensures v (c.in_ok-kept.ensures scope v m) m

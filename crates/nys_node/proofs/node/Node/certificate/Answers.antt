use Rattle.std.proofs.Common.{◌∙◌, ap}
use Rattle.nys_votes.specs.Ordered.{makers_of}
use Rattle.nys_node.proofs.ReplyLemmas.{certificate_is}
use Rattle.nys_node.proofs.RowLemmas.{desk_read}
use Rattle.nys_node.proofs.node.Node.certificate.Goals as goal

-- the Order of the content with all makers that were collected
pub returns : goal.returns
returns g c = λ scope v m.
    let desk = desk_read scope c.args.self.now v c.args.h c.index.result.now m c.requires.host c.index.ensures in
    certificate_is v c.args.h c.log_len-slot.result c.args.self.now.epoch c.in_ok-content.content c.args.content.now c.say-statement.result c.in_ok-makers.makers
    c.say-statement.ensures m.epoch (c.log_len-slot.ensures scope v m) c.in_ok-content.ensures (c.in_ok-makers.ensures ∙ ap (λ d. makers_of d.orders) desk)

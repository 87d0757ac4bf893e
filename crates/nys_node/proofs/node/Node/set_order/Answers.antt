use Rattle.std.proofs.Common.{ap, ◌==◌, ◌∙◌}
use Rattle.nys_node.proofs.Desks.{means_desk}
use Rattle.nys_rules.specs.Taking.{with_order}
use Rattle.nys_node.proofs.node.Node.set_order.Goals as goal

-- one desk changes
pub returns : goal.returns
returns g c = λ scope v m.
    means_desk scope c.args.self.now c.args.h c.index_mut.result.now c.order.new.self (with_order (v.me == c.args.h) v.me c.args.content c.args.tags) c.requires.host c.index_mut.ensures.value
    (c.order.ensures ∙ ap (λ me. with_order (me == c.args.h) me c.args.content c.args.tags c.index_mut.result.now) m.me) v m

use Rattle.std.proofs.Common.{ap, ◌∙◌}
use Rattle.nys_node.proofs.Desks.{means_desk}
use Rattle.nys_rules.specs.Taking.{with_deliver}
use Rattle.nys_node.proofs.node.Node.set_deliver.Goals as goal

-- one desk changes
pub returns : goal.returns
returns g c = λ scope v m.
    means_desk scope c.args.self.now c.args.h c.index_mut.result.now c.deliver.new.self (with_deliver v.me c.args.content c.args.tags) c.requires.host c.index_mut.ensures.value
    (c.in_ok-deliver.ensures ∙ ap (λ me. with_deliver me c.args.content c.args.tags c.index_mut.result.now) m.me) v m

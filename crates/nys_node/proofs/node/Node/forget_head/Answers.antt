use Rattle.std.proofs.Common.{◌∙◌, ap}
use Rattle.nys_rules.specs.Logging.{heads_after}
use Rattle.nys_node.proofs.BankLemmas.{bank_is, means_heads}
use Rattle.nys_node.proofs.node.Node.forget_head.Goals as goal

-- one bank has other heads
pub returns : goal.returns
returns g c = λ scope v m.
    let bank = c.index_mut.result.now in
    means_heads scope c.args.self.now c.args.h bank c.forget.new.bank (heads_after c.args.content.now (v.heads c.args.h)) c.requires.host c.index_mut.ensures.value
    (c.forget.ensures ∙ ap (λ heads. (bank.0, heads_after c.args.content.now heads))
    (ap (λ b. b.1) (bank_is scope c.args.self.now c.args.h bank c.requires.host c.index_mut.ensures.value v m))) v m

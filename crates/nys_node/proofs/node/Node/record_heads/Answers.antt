use Rattle.std.proofs.Common.{◌∙◌, ap, map}
use Rattle.std.specs.List.{range_with_len}
use Rattle.nys_rules.specs.Heads.{recorded, with_heads}
use Rattle.nys_config.specs.Scopes.{scope_of}
use Rattle.nys_node.proofs.BankLemmas.{bank_is, means_heads, recorded_same}
use Rattle.nys_node.proofs.node.Node.record_heads.Goals as goal

-- one bank has other heads
pub returns : goal.returns
unfolding with_heads
returns g c = λ v m.
    let scope = scope_of (g.P.Protocol.rules c.args.cx.now.protocol) c.args.cx.now in
    let bank = c.index_mut.result.now in
    means_heads scope c.args.self.now c.args.h bank c.record.new.self (map (recorded scope v c.args.h) (range_with_len 0 32)) c.requires.host c.index_mut.ensures.value
    (c.record.ensures ∙ ap (λ heads. (bank.0, heads)) (recorded_same scope v c.args.h bank.1 c.links_with_heads-links.result c.log_len-since.result
    (ap (λ b. b.1) (bank_is scope c.args.self.now c.args.h bank c.requires.host c.index_mut.ensures.value v m))
    (c.log_len-since.ensures scope v m) (c.links_with_heads-links.ensures v m))) v m

use Rattle.std.proofs.Common.{◌==◌}
use Rattle.std.proofs.lemmas.Bool.{ne_eqb}
use Rattle.nys_config.specs.Scopes.{scope_of}
use Rattle.nys_rules.specs.Asking.{order_record}
use Rattle.nys_node.proofs.ReplyLemmas.{unsent}
use Rattle.nys_node.proofs.node.Node.reply_to_host.Goals as goal

-- the asker is another host
pub returns-then-asker-h : goal.returns-then-asker-h
returns-then-asker-h g c = λ v m.
    let scope = scope_of (g.P.Protocol.rules c.args.cx.now.protocol) c.args.cx.now in
    unsent v.me c.args.asker c.args.out.now (c.args.asker == c.args.h) (order_record scope v c.args.h) (ne_eqb c.args.asker c.args.h c.if-asker-h.true)

use Rattle.std.proofs.Common.{◌==◌}
use Rattle.std.specs.Option.{option_to_list}
use Rattle.nys_config.specs.Scopes.{scope_of}
use Rattle.nys_rules.specs.Asking.{certificate_record, deliver_record, offer_record, order_record}
use Rattle.nys_rules.specs.Rules.{only_if}
use Rattle.nys_node.proofs.ReplyLemmas.{sent_all}
use Rattle.nys_node.proofs.node.Node.reply_open.Goals as goal

-- what is its own, then what is for the host alone, then its Deliver
pub returns : goal.returns
returns g c = λ v m.
    let scope = scope_of (g.P.Protocol.rules c.args.cx.now.protocol) c.args.cx.now in
    let h = c.args.h in
    let asker = c.args.asker in
    sent_all v.me asker c.args.out.now c.reply_own.new.out c.reply_to_host.new.out c.reply_said.new.out
    (option_to_list (only_if (v.me == h) (offer_record scope v h))) (option_to_list (only_if (v.me == h) (certificate_record v h)))
    (option_to_list (only_if (asker == h) (order_record scope v h))) (option_to_list (deliver_record scope v h))
    (c.in_ok-reply_own.ensures v m) (c.in_ok-reply_to_host.ensures v m) (c.in_ok-reply_said.ensures v m)

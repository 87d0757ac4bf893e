use Rattle.nys_config.specs.Scopes.{scope_of}
use Rattle.nys_rules.specs.Asking.{attest_records, slot_records}
use Rattle.nys_node.proofs.ReplyLemmas.{replied_both}
use Rattle.nys_node.proofs.node.Node.answer.Goals as goal

-- what it has for the slot, then its attestations
pub returns : goal.returns
returns g c = λ v m.
    let scope = scope_of (g.P.Protocol.rules c.args.cx.now.protocol) c.args.cx.now in
    replied_both v.me c.args.asker c.args.out.now c.reply_slot.new.out c.reply_links.new.out (slot_records scope v c.args.h c.args.slot c.args.asker) (attest_records scope v c.args.h)
    (c.in_ok-reply_slot.ensures v m) (c.in_ok-reply_links.ensures v m)

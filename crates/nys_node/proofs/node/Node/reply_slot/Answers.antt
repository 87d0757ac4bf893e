use Rattle.std.proofs.Common.{◌∙◌, sym}
use Rattle.nys_config.specs.Scopes.{scope_of}
use Rattle.nys_node.proofs.AnswerLemmas.{slot_kept, slot_open}
use Rattle.nys_node.proofs.node.Node.reply_slot.Goals as goal

-- the slot is the open one
pub returns-in_ok-reply_open : goal.returns-in_ok-reply_open
returns-in_ok-reply_open g c = λ v m.
    let scope = scope_of (g.P.Protocol.rules c.args.cx.now.protocol) c.args.cx.now in
    slot_open scope v c.args.h c.args.slot c.args.asker c.args.out.now c.reply_open.new.out (c.if-slot-log_len.true ∙ c.log_len.ensures scope v m) (c.in_ok-reply_open.ensures v m)

-- it is another
pub returns-in_ok-reply_kept : goal.returns-in_ok-reply_kept
returns-in_ok-reply_kept g c = λ v m.
    let scope = scope_of (g.P.Protocol.rules c.args.cx.now.protocol) c.args.cx.now in
    slot_kept scope v c.args.h c.args.slot c.args.asker c.args.out.now c.reply_kept.new.out (λ e. c.if-slot-log_len.false (e ∙ sym (c.log_len.ensures scope v m))) (c.in_ok-reply_kept.ensures v m)

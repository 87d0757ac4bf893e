use Rattle.std.proofs.Common.{◌==◌, ◌∙◌, sym, eq-eqb}
use Rattle.std.proofs.lemmas.Bool.{ne_eqb}
use Rattle.nys_config.specs.Scopes.{scope_of}
use Rattle.nys_rules.specs.Asking.{certificate_record, offer_record}
use Rattle.nys_node.proofs.ReplyLemmas.{sent_both, unsent_both}
use Rattle.nys_node.proofs.node.Node.reply_own.Goals as goal

-- the slot is another host's
pub returns-then-self-h : goal.returns-then-self-h
returns-then-self-h g c = λ v m.
    let scope = scope_of (g.P.Protocol.rules c.args.cx.now.protocol) c.args.cx.now in
    let h = c.args.h in
    unsent_both v.me c.args.asker c.args.out.now (v.me == h) (offer_record scope v h) (certificate_record v h) (ne_eqb v.me h (λ e. c.if-self-h.true (m.me ∙ e)))

-- it is its own
pub returns : goal.returns
returns g c = λ v m.
    let scope = scope_of (g.P.Protocol.rules c.args.cx.now.protocol) c.args.cx.now in
    let h = c.args.h in
    sent_both v.me c.args.asker c.args.out.now c.reply_said.new.out c.reply_certificate.new.out (v.me == h) (offer_record scope v h) (certificate_record v h)
    (eq-eqb v.me h (sym m.me ∙ c.if-self-h.false)) (c.in_ok-reply_said.ensures v m) (c.in_ok-reply_certificate.ensures v m)

use Rattle.std.proofs.Common.{◌∙◌, ap, sym}
use Rattle.std.specs.Prelude.{option_copied}
use Rattle.nys_config.specs.Scopes.{scope_of}
use Rattle.nys_node.specs.Said.{said_at}
use Rattle.nys_rules.specs.Sending.{record_of}
use Rattle.nys_rules.specs.View.{length_of}
use Rattle.nys_stmt.specs.declared.statement.Body.TheVariants as body
use Rattle.nys_node.proofs.ReplyLemmas.{filled_at, replied_none, replied_said, said_none, said_range}
use Rattle.nys_node.proofs.SayLemmas.{says_in_range}
use Rattle.nys_node.proofs.node.Node.reply_said.Goals as goal

-- what is on the desk is in range for the open slot
pub reply-requires-clause-range : goal.reply-requires-clause-range
reply-requires-clause-range g c =
    let rules = g.P.Protocol.rules c.args.cx.now.protocol in
    let scope = scope_of rules c.args.cx.now in
    let h = c.args.h in
    let said = c.args.kind in
    let v = c.requires.means.0 in
    let m = c.requires.means.1.means in
    let sound = c.requires.means.1.sound in
    let slot = c.log_len-slot.result in
    let copy = c.in_ok-content-in-Some.content in
    says_in_range rules.hosts rules c.args.cx.now c.args.self.now v (body.Filled said h slot copy) c.requires.config m
    (filled_at scope v sound h slot copy c.in-Some.content.now (said_at said) c.requires.host (said_none said) (said_range said _ (v.desks h) (sound.desks h))
    (c.log_len-slot.ensures scope v m) c.in_ok-content-in-Some.ensures (ap option_copied (sym c.in-Some.is) ∙ c.said.ensures scope v m))

-- it said one
pub returns-in_ok-reply-in-Some : goal.returns-in_ok-reply-in-Some
returns-in_ok-reply-in-Some g c = λ v m.
    let scope = scope_of (g.P.Protocol.rules c.args.cx.now.protocol) c.args.cx.now in
    let h = c.args.h in
    let said = c.args.kind in
    replied_said scope v h c.args.asker c.args.out.now c.reply.new.out (λ s x. body.Filled said h s x) c.log_len-slot.result c.in_ok-content-in-Some.content c.in-Some.content.now
    (said_at said (v.desks h)) (c.in_ok-reply-in-Some.ensures v m) (c.log_len-slot.ensures scope v m) c.in_ok-content-in-Some.ensures
    (ap option_copied (sym c.in-Some.is) ∙ c.said.ensures scope v m)

-- it said none
pub returns-in-None : goal.returns-in-None
returns-in-None g c = λ v m.
    let scope = scope_of (g.P.Protocol.rules c.args.cx.now.protocol) c.args.cx.now in
    let h = c.args.h in
    let said = c.args.kind in
    replied_none v.me c.args.asker c.args.out.now (λ x. record_of scope v h (body.Filled said h (length_of v h) x)) (said_at said (v.desks h))
    (ap option_copied (sym c.in-None.is) ∙ c.said.ensures scope v m)

use Rattle.std.proofs.Common.{◌≡◌, ◌≤◌, ◌∙◌, [], ◌∷◌, ap, subst, sym, refl, arith}
use Rattle.nys_sending.specs.Receivers.{replied}
use Rattle.nys_config.specs.Scopes.{scope_of}
use Rattle.nys_rules.specs.Packets.{joined}
use Rattle.nys_stmt.specs.Records.{IsWhole}
use Rattle.nys_stmt.specs.Ranges.{IsInRange}
use Rattle.nys_rules.specs.Sending.{said_in}
use Rattle.nys_rules.specs.View.{length_of}
use Rattle.nys_stmt.specs.declared.statement.Body.TheVariants as body
use Rattle.nys_stmt.specs.declared.statement.FilledKind.TheVariants as kind
use Rattle.nys_node.proofs.ReplyLemmas.{certificate_sent, certificate_unmade, certificate_unsent, filled_at, sent_whole, tells}
use Rattle.nys_node.proofs.RowLemmas.{desk_read}
use Rattle.nys_node.proofs.SayLemmas.{epoch_fits}
use Rattle.nys_node.proofs.node.Node.reply_certificate.Goals as goal

-- it sent none
pub returns-then-sent-lt1 : goal.returns-then-sent-lt1
returns-then-sent-lt1 g c = λ v m.
    let scope = scope_of (g.P.Protocol.rules c.args.cx.now.protocol) c.args.cx.now in
    let h = c.args.h in
    let desk = desk_read scope c.args.self.now v h c.index.result.now m c.requires.host c.index.ensures in
    let none : (v.desks h).sent ≡ 0 = omega (arith, ap (λ d. d.sent) desk, c.sent.ensures, c.if-sent-lt1.true) in
    certificate_unsent v h v.me c.args.asker c.args.out.now none

-- what it collected makes a whole record
pub send_to-requires : goal.send_to-requires
send_to-requires g c =
    let rules = g.P.Protocol.rules c.args.cx.now.protocol in
    let scope = scope_of rules c.args.cx.now in
    let node = c.args.self.now in
    let h = c.args.h in
    let v = c.requires.means.0 in
    let m = c.requires.means.1.means in
    let sound = c.requires.means.1.sound in
    let desk = desk_read scope node v h c.index.result.now m c.requires.host c.index.ensures in
    let again = desk_read scope node v h c.index-2.result.now m c.requires.host c.index-2.ensures in
    let content = c.in-Some.content.now in
    let some : 1 ≤ (v.desks h).sent = omega (arith, ap (λ d. d.sent) desk, c.sent.ensures, c.if-sent-lt1.false) in
    let filled = filled_at scope v sound h (length_of v h) content content (λ d. d.offered) c.requires.host refl (sound.desks h).offered refl refl (c.in-Some.ensures ∙ ap (λ d. d.offered) again) in
    let epoch : v.epoch ≤ 63 = omega (arith, m.epoch, epoch_fits rules.hosts rules c.args.cx.now node v c.requires.config m) in
    let in_range : IsInRange (said_in v.epoch (body.Filled kind.Order h (length_of v h) content)) = record { epoch = epoch; body = filled } in
    subst IsWhole (sym (c.in_ok-own-in-Some.ensures scope v m)) (sent_whole scope v sound h content (tells scope node v h m c.requires.some) in_range some)

-- it sent one
pub returns-in_ok-send_to-in-Some : goal.returns-in_ok-send_to-in-Some
returns-in_ok-send_to-in-Some g c = λ v m.
    let scope = scope_of (g.P.Protocol.rules c.args.cx.now.protocol) c.args.cx.now in
    let node = c.args.self.now in
    let h = c.args.h in
    let desk = desk_read scope node v h c.index.result.now m c.requires.host c.index.ensures in
    let again = desk_read scope node v h c.index-2.result.now m c.requires.host c.index-2.ensures in
    let some : 1 ≤ (v.desks h).sent = omega (arith, ap (λ d. d.sent) desk, c.sent.ensures, c.if-sent-lt1.false) in
    certificate_sent v h v.me c.args.asker c.args.out.now c.send_to.new.self c.in-Some.content.now some (c.in-Some.ensures ∙ ap (λ d. d.offered) again)
    (c.in_ok-send_to-in-Some.ensures ∙ ap (λ me. joined c.args.out.now (replied me c.args.asker (c.in_ok-own-in-Some.own ∷ []))) m.me
    ∙ ap (λ r. joined c.args.out.now (replied v.me c.args.asker (r ∷ []))) (c.in_ok-own-in-Some.ensures scope v m))

-- it made no offer
pub returns-in-None : goal.returns-in-None
returns-in-None g c = λ v m.
    let scope = scope_of (g.P.Protocol.rules c.args.cx.now.protocol) c.args.cx.now in
    let node = c.args.self.now in
    let h = c.args.h in
    let desk = desk_read scope node v h c.index.result.now m c.requires.host c.index.ensures in
    let again = desk_read scope node v h c.index-2.result.now m c.requires.host c.index-2.ensures in
    let some : 1 ≤ (v.desks h).sent = omega (arith, ap (λ d. d.sent) desk, c.sent.ensures, c.if-sent-lt1.false) in
    certificate_unmade v h v.me c.args.asker c.args.out.now some (c.in-None.ensures ∙ ap (λ d. d.offered) again)

use Rattle.std.proofs.Common.{arith, ap, sym, subst, ◌∙◌, length}
use Rattle.nys_config.specs.Scopes.{scope_of}
use Rattle.nys_node.proofs.Says.{certifying_is}
use Rattle.nys_node.proofs.SoundRecords.{certificate_whole}
use Rattle.nys_rules.specs.Packets.{joined}
use Rattle.nys_rules.specs.Sending.{others}
use Rattle.nys_stmt.specs.Records.{IsWhole}
use Rattle.nys_node.proofs.node.Node.take_certificate.Goals as goal

-- where there is another guard the certificate is a record
pub send-requires : goal.send-requires
send-requires g c = λ some.
    let r = c.requires.ready in
    let scope = scope_of (g.P.Protocol.rules c.args.cx.now.protocol) c.args.cx.now in
    subst IsWhole (sym (c.in_ok-own.ensures scope r.view r.is.means))
    (certificate_whole scope c.requires.scope r.view r.is.sound r.is.means.within c.args.h c.args.content
    (omega (arith, some, ap (λ me. length (others me c.as_slice.result.now)) r.is.means.me, ap (λ gs. length (others r.view.me gs)) (c.as_slice.ensures.value ∙ c.in_ok-guards.ensures.value r.view r.is.means))) r.enabled)

-- the desk says how many makers were sent
pub returns-clause-node : goal.returns-clause-node
returns-clause-node g c = λ v m. c.set_sent.ensures (scope_of (g.P.Protocol.rules c.args.cx.now.protocol) c.args.cx.now) v m

-- the other guards have the certificate
pub returns-clause-out : goal.returns-clause-out
returns-clause-out g c = λ v m.
    let scope = scope_of (g.P.Protocol.rules c.args.cx.now.protocol) c.args.cx.now in
    c.in_ok-send.ensures ∙ ap (joined c.args.out.now) (certifying_is scope v c.args.h c.args.self.now.me c.args.content c.in_ok-own.own c.as_slice.result.now m.me
    (c.in_ok-own.ensures scope v m) (c.as_slice.ensures.value ∙ c.in_ok-guards.ensures.value v m))

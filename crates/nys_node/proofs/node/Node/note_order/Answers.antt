use Rattle.std.proofs.Common.{◌∙◌, sym, subst, eq-eqb}
use Rattle.std.proofs.lemmas.Bool.{ne_eqb}
use Rattle.nys_rules.specs.Noting.{at_desk, with_certificate}
use Rattle.nys_rules.specs.Scope.{quorum_at}
use Rattle.nys_node.specs.Means.{Means}
use Rattle.nys_config.specs.Scopes.{scope_of}
use Rattle.nys_node.proofs.node.Node.note_order.Goals as goal

-- the host is the node's own
pub returns-then-self-h : goal.returns-then-self-h
returns-then-self-h g c = λ v e slot m.
    let scope = scope_of (g.P.Protocol.rules c.args.cx.now.protocol) c.args.cx.now in
    rw (eq-eqb v.me c.args.h (sym m.me ∙ c.if-self-h.true)) (c.note_orders.ensures scope v m)

-- it is another
pub returns-in_ok-content : goal.returns-in_ok-content
returns-in_ok-content g c = λ v e slot m.
    let scope = scope_of (g.P.Protocol.rules c.args.cx.now.protocol) c.args.cx.now in
    let makers = c.args.makers.items in
    let node = c.note_certificate.new.self in
    rw (ne_eqb v.me c.args.h (λ same. c.if-self-h.false (m.me ∙ same)))
    (subst (λ ms. Means scope node (at_desk c.args.h (with_certificate (quorum_at scope v.epoch c.args.h) c.args.content.now ms) v)) c.as_slice.ensures.value
    (subst (λ x. Means scope node (at_desk c.args.h (with_certificate (quorum_at scope v.epoch c.args.h) x c.as_slice.result.now) v)) c.in_ok-content.ensures
    (subst (λ q. Means scope node (at_desk c.args.h (with_certificate q c.in_ok-content.content c.as_slice.result.now) v)) (c.quorum.ensures v m) (c.note_certificate.ensures scope v m))))

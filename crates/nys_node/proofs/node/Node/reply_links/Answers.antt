use Rattle.std.proofs.Common.{◌≡◌, arith}
use Rattle.nys_config.specs.Scopes.{scope_of}
use Rattle.nys_node.proofs.AnswerLemmas.{linked_is, links_end, links_next}
use Rattle.nys_node.proofs.ReplyLemmas.{replied_nothing}
use Rattle.nys_node.proofs.node.Node.reply_links.Goals as goal

-- no link was looked at
pub loop-p-init : goal.loop-p-init
loop-p-init g c = λ v m. replied_nothing v.me c.args.asker c.args.out.now

-- one link more was looked at
pub loop-p-preserved : goal.loop-p-preserved
loop-p-preserved g c = λ v m.
    let rules = g.P.Protocol.rules c.args.cx.now.protocol in
    let scope = scope_of rules c.args.cx.now in
    links_next scope v c.args.asker c.args.h c.loop-p.p (λ q. rules.linked q c.args.h) c.args.out.now c.loop-p.out c.reply_neighbour.new.out (c.loop-p.invariant v m) (c.in_ok-reply_neighbour.ensures v m)

-- all were looked at
pub returns : goal.returns
returns g c = λ v m.
    let scope = scope_of (g.P.Protocol.rules c.args.cx.now.protocol) c.args.cx.now in
    let end : c.loop-p.p ≡ 32 = omega (arith, c.loop-p.auto.p-end, c.loop-p-test.false) in
    links_end scope v c.args.asker c.args.h c.loop-p.p c.args.out.now c.loop-p.out end (linked_is (g.P.Protocol.rules c.args.cx.now.protocol) c.args.cx.now v c.args.asker c.args.h c.loop-p.p c.args.out.now c.loop-p.out (c.loop-p.invariant v m))

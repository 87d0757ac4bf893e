use Rattle.std.proofs.Common.{◌<◌, ◌≤◌, length, refl, arith}
use Rattle.std.proofs.lemmas.Option.{slice_get_read}
use Rattle.nys_config.specs.Scopes.{scope_of}
use Rattle.nys_rules.specs.Asking.{answering}
use Rattle.nys_rules.specs.Packets.{joined}
use Rattle.nys_node.proofs.AnswerLemmas.{answered_end, answered_next}
use Rattle.nys_node.proofs.node.Node.answer_all.Goals as goal

-- one asker more was answered
pub loop-i-preserved : goal.loop-i-preserved
loop-i-preserved g c = λ v m.
    let scope = scope_of (g.P.Protocol.rules c.args.cx.now.protocol) c.args.cx.now in
    let makers = c.args.makers.now in
    let inside : c.loop-i.i < length makers = omega (arith, c.loop-i-test.true) in
    let tags = c.index-makers-i.result in
    answered_next scope v c.args.h c.args.slot (joined c.args.out.now (answering scope v c.args.h c.args.slot makers)) c.loop-i.out c.answer.new.out makers c.loop-i.i tags
    (slice_get_read makers (length makers) c.loop-i.i tags refl inside c.index-makers-i.is) (c.in_ok-answer.ensures v m) (c.loop-i.invariant v m)

-- all were answered
pub returns : goal.returns
returns g c = λ v m.
    let scope = scope_of (g.P.Protocol.rules c.args.cx.now.protocol) c.args.cx.now in
    let makers = c.args.makers.now in
    let past : length makers ≤ c.loop-i.i = omega (arith, c.loop-i-test.false) in
    answered_end scope v c.args.h c.args.slot (joined c.args.out.now (answering scope v c.args.h c.args.slot makers)) c.loop-i.out makers c.loop-i.i past (c.loop-i.invariant v m)

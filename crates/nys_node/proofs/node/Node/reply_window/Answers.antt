use Rattle.std.proofs.Common.{◌≡◌, arith}
use Rattle.nys_config.specs.Scopes.{scope_of}
use Rattle.nys_node.proofs.AnswerLemmas.{window_end, window_next}
use Rattle.nys_node.proofs.ReplyLemmas.{replied_nothing}
use Rattle.nys_node.proofs.SoundRanges.{next_range}
use Rattle.nys_node.proofs.node.Node.reply_window.Goals as goal

-- no number was looked at
pub loop-i-init : goal.loop-i-init
loop-i-init g c = λ v m. replied_nothing v.me c.args.asker c.args.out.now

-- a log takes at most 1,024 messages
pub overflow_add-next : goal.overflow_add-next
overflow_add-next g c =
    let scope = scope_of (g.P.Protocol.rules c.args.cx.now.protocol) c.args.cx.now in
    let v = c.requires.means.0 in
    omega (arith, c.next_number-next.ensures scope v c.requires.means.1.means, next_range scope v c.requires.means.1.sound c.args.p c.args.h, c.loop-i-test.true)

-- so the numbers of its windows are in range
pub reply_attest-requires-clause-number : goal.reply_attest-requires-clause-number
reply_attest-requires-clause-number g c =
    let scope = scope_of (g.P.Protocol.rules c.args.cx.now.protocol) c.args.cx.now in
    let v = c.requires.means.0 in
    omega (arith, c.next_number-next.ensures scope v c.requires.means.1.means, next_range scope v c.requires.means.1.sound c.args.p c.args.h, c.loop-i-test.true)

-- one number more was looked at
pub loop-i-preserved : goal.loop-i-preserved
loop-i-preserved g c = λ v m.
    let scope = scope_of (g.P.Protocol.rules c.args.cx.now.protocol) c.args.cx.now in
    window_next scope v c.args.asker c.args.p c.args.h c.next_number-next.result c.loop-i.i c.args.out.now c.loop-i.out c.reply_attest.new.out (c.loop-i.invariant v m) (c.in_ok-reply_attest.ensures v m)

-- all were looked at
pub returns : goal.returns
returns g c = λ v m.
    let scope = scope_of (g.P.Protocol.rules c.args.cx.now.protocol) c.args.cx.now in
    let all : c.loop-i.i ≡ 64 = omega (arith, c.loop-i.auto.i-end, c.loop-i-test.false) in
    window_end scope v c.args.asker c.args.p c.args.h c.next_number-next.result c.loop-i.i c.args.out.now c.loop-i.out (c.next_number-next.ensures scope v m) all (c.loop-i.invariant v m)

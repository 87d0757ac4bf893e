use Rattle.std.proofs.Common.{◌≡◌, ◌<◌, ◌∙◌, ap, arith, false, length, not}
use Rattle.std.proofs.lemmas.List.{get_or_default}
use Rattle.circular_buffer.proofs.Places.{slice_get-some}
use Rattle.nys_world.proofs.PacketNumbers.{packets_all, pushed_next}
use Rattle.nys_world.proofs.giving.undelivered.Goals as goal

-- no packet was looked at
pub loop-k-init : goal.loop-k-init
loop-k-init c = λ w kept. c.new-ks.ensures.items

-- one more was
pub loop-k-preserved : goal.loop-k-preserved
loop-k-preserved c = λ w kept.
    let k = c.loop-k.k in
    let delivered = c.args.books.now.delivered.items in
    let size = ap length kept.pool in
    let sent : k < length w.pool = omega (arith, c.loop-k-test.true, c.len-k-end.ensures, size) in
    let row : k < length delivered = omega (arith, sent, kept.rows) in
    let there = slice_get-some w.pool k sent in
    pushed_next (λ x p. not (w.delivered x)) w.pool k c.loop-k.ks.items c.push_if.new.ks.items there.0 (not c.index.result.now) there.1
    (ap not (c.index.ensures ∙ get_or_default delivered k c.index.result.now false row ∙ kept.delivered k))
    (c.loop-k.invariant w kept) c.in_ok-push_if.ensures

-- all were
pub returns : goal.returns
returns c = λ w kept.
    let size = ap length kept.pool in
    let end : c.loop-k.k ≡ length w.pool = omega (arith, c.loop-k.auto.k-end, c.loop-k-test.false, c.len-k-end.ensures, size) in
    c.loop-k.invariant w kept ∙ packets_all (λ x p. not (w.delivered x)) w c.loop-k.k end

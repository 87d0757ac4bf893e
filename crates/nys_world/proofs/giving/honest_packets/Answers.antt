use Rattle.std.proofs.Common.{◌≡◌, ◌<◌, ◌∙◌, ◌&&◌, ap, arith, length, refl, subst, Some}
use Rattle.std.specs.Prelude.{slice_get}
use Rattle.std.proofs.lemmas.Option.{slice_get_read}
use Rattle.nys_rules.specs.World.{is_honest}
use Rattle.nys_world.specs.Shows.{setting_of}
use Rattle.nys_world.proofs.PacketNumbers.{packets_all, pushed_next}
use Rattle.nys_world.proofs.giving.honest_packets.Goals as goal

-- no packet was looked at
pub loop-k-init : goal.loop-k-init
loop-k-init g c = λ w kept. c.new-ks.ensures.items

-- one more was
pub loop-k-preserved : goal.loop-k-preserved
loop-k-preserved g c = λ w kept.
    let setting = setting_of (g.P.Protocol.rules c.args.stage.now.cx.protocol) c.args.stage.now in
    let k = c.loop-k.k in
    let p = c.index.result.now in
    let pool = c.args.books.now.pool.items in
    let sent : k < length pool = omega (arith, c.loop-k-test.true, c.len-k-end.ensures) in
    pushed_next (λ x y. is_honest setting y.from && is_honest setting y.to) w.pool k c.loop-k.ks.items c.push_if.new.ks.items p c.is_between_honest.result
    (subst (λ packets. slice_get packets k ≡ Some p) kept.pool (slice_get_read pool (length pool) k p refl sent c.index.ensures))
    c.is_between_honest.ensures (c.loop-k.invariant w kept) c.in_ok-push_if.ensures

-- all were
pub returns : goal.returns
returns g c = λ w kept.
    let setting = setting_of (g.P.Protocol.rules c.args.stage.now.cx.protocol) c.args.stage.now in
    let size = ap length kept.pool in
    let end : c.loop-k.k ≡ length w.pool = omega (arith, c.loop-k.auto.k-end, c.loop-k-test.false, c.len-k-end.ensures, size) in
    c.loop-k.invariant w kept ∙ packets_all (λ x p. is_honest setting p.from && is_honest setting p.to) w c.loop-k.k end

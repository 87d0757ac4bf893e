-- One host after another.
use Rattle.std.proofs.Common.{arith}
use Rattle.nys_hosts.specs.Sets.{has}
use Rattle.nys_world.specs.Shows.{setting_of}
use Rattle.nys_world.proofs.ForgedMakers.{forged_at, true_all, true_next}
use Rattle.nys_world.proofs.books.Books.forged_host.Goals as goal

-- the host is the first that never made it
pub returns-then-is_forged_for-clause-some : goal.returns-then-is_forged_for-clause-some
returns-then-is_forged_for-clause-some g c = λ w k.
    let setting = setting_of (g.P.Protocol.rules c.args.stage.now.cx.protocol) c.args.stage.now in
    forged_at setting w.ledger c.args.statement.now (has c.args.hosts.now) c.loop-h.h c.loop-h-test.true
    (c.is_forged_for.ensures.among c.if-is_forged_for.true) (c.is_forged_for.ensures.never c.if-is_forged_for.true w k)
    (c.loop-h.invariant w k)

-- the host made it
pub loop-h-preserved : goal.loop-h-preserved
loop-h-preserved g c = λ w k.
    let setting = setting_of (g.P.Protocol.rules c.args.stage.now.cx.protocol) c.args.stage.now in
    true_next setting w.ledger c.args.statement.now (has c.args.hosts.now) c.loop-h.h
    (λ among. c.is_forged_for.ensures.made c.if-is_forged_for.false among w k) (c.loop-h.invariant w k)

-- all hosts made it
pub returns-clause-none : goal.returns-clause-none
returns-clause-none g c = λ w k.
    let setting = setting_of (g.P.Protocol.rules c.args.stage.now.cx.protocol) c.args.stage.now in
    true_all setting w.ledger c.args.statement.now (has c.args.hosts.now) c.loop-h.h
    (omega (arith, c.loop-h.auto.h-end, c.loop-h-test.false)) (c.loop-h.invariant w k)

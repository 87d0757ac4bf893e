use Rattle.std.proofs.Common.{◌+◌, refl}
use Rattle.std.proofs.lemmas.Result.{err_from_is_err_and}
use Rattle.nys_wire.specs.Reading.{tag_at}
use Rattle.nys_wire.proofs.Each.{behind_goes, behind_ends, behind_done}
use Rattle.nys_wire.proofs.makers.pass_tags.Goals as goal

-- a fault of one is that of the whole
pub returns-in_err-receiver : goal.returns-in_err-receiver
returns-in_err-receiver c =
    let p = err_from_is_err_and c.from_residual.result c.from_residual.ensures.1 in
    rw (p.1, p.2) (behind_ends tag_at (λ t. t.0 + 1) _ c.args.count c.loop.counter c.loop.least c.loop.fields _ c.loop-test.true c.in_err-receiver.ensures.tells c.loop.invariant)

pub loop-preserved : goal.loop-preserved
loop-preserved c = behind_goes tag_at (λ t. t.0 + 1) c.args.count c.loop.counter c.loop.least c.loop.fields _ _ _ c.loop-test.true (_, c.in_ok-receiver.ensures.tells, refl) c.loop.invariant

pub returns : goal.returns
returns c = behind_done tag_at (λ t. t.0 + 1) c.args.count c.loop.counter c.loop.least c.loop.fields _ c.loop-test.false c.loop.invariant

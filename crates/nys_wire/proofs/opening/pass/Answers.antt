use Rattle.std.proofs.Common.{refl}
use Rattle.std.proofs.lemmas.Result.{err_from_is_err_and}
use Rattle.nys_wire.specs.Reading.{length_at}
use Rattle.nys_wire.proofs.Each.{behind_goes, behind_ends, behind_done}
use Rattle.nys_wire.proofs.opening.pass.Goals as goal

-- a fault of one is that of the whole
pub returns-in_err-length : goal.returns-in_err-length
returns-in_err-length c =
    let p = err_from_is_err_and c.from_residual.result c.from_residual.ensures.1 in
    rw (p.1, p.2) (behind_ends (λ _. length_at) (λ _. 0) _ c.args.count c.loop.counter 0 c.loop.fields _ c.loop-test.true c.in_err-length.ensures.gives c.loop.invariant)

pub loop-preserved : goal.loop-preserved
loop-preserved c = behind_goes (λ _. length_at) (λ _. 0) c.args.count c.loop.counter 0 c.loop.fields _ _ 0 c.loop-test.true (_, c.in_ok-length.ensures.gives, refl) c.loop.invariant

pub returns : goal.returns
returns c = behind_done (λ _. length_at) (λ _. 0) c.args.count c.loop.counter 0 c.loop.fields _ c.loop-test.false c.loop.invariant

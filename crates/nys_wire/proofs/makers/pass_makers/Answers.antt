use Rattle.std.proofs.Common.{ℕ, ◌+◌, ap, sym}
use Rattle.std.proofs.lemmas.Result.{err_from_is_err_and}
use Rattle.nys_wire.specs.Reading.{maker_at}
use Rattle.nys_wire.proofs.Each.{behind_goes, behind_ends, behind_done}
use Rattle.nys_wire.proofs.makers.pass_makers.Goals as goal

-- a fault of one is that of the whole
pub returns-in_err-maker : goal.returns-in_err-maker
returns-in_err-maker c =
    let p = err_from_is_err_and c.from_residual.result c.from_residual.ensures.1 in
    rw (p.1, p.2) (behind_ends maker_at (λ t. t.maker + 1) _ c.args.count c.loop.counter c.loop.least c.loop.fields _ c.loop-test.true c.in_err-maker.ensures c.loop.invariant)

pub loop-preserved : goal.loop-preserved
loop-preserved c = behind_goes maker_at (λ t. t.maker + 1) c.args.count c.loop.counter c.loop.least c.loop.fields _ _ _ c.loop-test.true (_, c.in_ok-maker.ensures, ap (λ (n : ℕ). n + 1) (sym c.maker-least.ensures.maker)) c.loop.invariant

pub returns : goal.returns
returns c = behind_done maker_at (λ t. t.maker + 1) c.args.count c.loop.counter c.loop.least c.loop.fields _ c.loop-test.false c.loop.invariant

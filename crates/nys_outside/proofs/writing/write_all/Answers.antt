use Rattle.std.proofs.Common.{◌-◌, ◌≡◌, length, take, drop, length-drop, ap, ◌∙◌, arith}
use Rattle.std.proofs.lemmas.List.{take_rest}
use Rattle.nys_outside.proofs.OutputLemmas.{Appends-next}
use Rattle.nys_outside.proofs.writing.write_all.Goals as goal

-- the piece was what is left, and what the sink took of it stands next to what was appended before
pub loop-at-preserved : goal.loop-at-preserved
loop-at-preserved g c =
    let piece : take (length c.args.bytes.now - c.loop-at.at) (drop c.loop-at.at c.args.bytes.now) ≡ drop c.loop-at.at c.args.bytes.now =
    take_rest c.args.bytes.now c.loop-at.at in
    let size : length (take (length c.args.bytes.now - c.loop-at.at) (drop c.loop-at.at c.args.bytes.now)) ≡ length c.args.bytes.now - c.loop-at.at =
    ap length piece ∙ length-drop c.loop-at.at c.args.bytes.now in (
      omega (arith, c.in_ok-at.ensures.bound, c.loop-at.invariant.0),
      Appends-next _ _ _ c.args.bytes.now c.loop-at.at c.in_ok-at.field-0 c.loop-at.invariant.1 (rw piece at c.in_ok-at.ensures.bytes),
      omega (arith, c.in_ok-at.ensures.cause.later, c.loop-at.invariant.2),
    )

use Rattle.std.proofs.Common.{◌≤◌, ap, arith, length}
use Rattle.nys_bytes.specs.declared.payload.TheConstants.{MAX_NUMBERS}
use Rattle.nys_schedule_text.proofs.length.payload_len.Goals as goal

-- 21 bytes for each of the numbers, of which there are MAX_NUMBERS at most
pub returns-clause-few : goal.returns-clause-few
returns-clause-few c =
    let most : length c.args.payload.now ≤ MAX_NUMBERS = c.numbers-number-items.ensures.few in
    omega (arith, c.loop-number.invariant.1, c.loop-number.auto.number-index-end, most, ap length c.numbers-number-items.ensures.value)

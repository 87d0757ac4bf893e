use Rattle.std.proofs.lemmas.Result.{err_from_is_err_and}
use Rattle.nys_wire.specs.Reading.{counted_at, payload_at}
use Rattle.nys_wire.proofs.Payloads.{numbers_fail, numbers_lie}
use Rattle.nys_wire.proofs.Places.{bytes_lie}
use Rattle.nys_wire.proofs.payload.PayloadRef.read.Goals as goal

-- too few bytes for the numbers
pub returns-in_err-numbers : goal.returns-in_err-numbers
unfolding payload_at counted_at
returns-in_err-numbers c =
    let p = err_from_is_err_and c.from_residual-in_err-numbers.result c.from_residual-in_err-numbers.ensures.1 in
    rw (p.1, p.2, c.in_ok-count.ensures.gives) (numbers_fail c.in_ok-count.count _ _ c.in_err-numbers.ensures.lies)

pub invariant_of-result : goal.invariant_of-result
invariant_of-result c = record {
  some = c.in_ok-count.ensures.least;
  few = c.in_ok-count.ensures.most;
  size = (bytes_lie _ _ _ _ c.in_ok-numbers.ensures.lies).size;
  each = c.in_ok-numbers.ensures.each;
}

-- the count and the numbers were read
pub returns : goal.returns
unfolding payload_at counted_at
returns c = rw c.in_ok-count.ensures.gives (numbers_lie c.in_ok-count.count _ _ _ c.in_ok-numbers.ensures.lies c.in_ok-numbers.ensures.each)

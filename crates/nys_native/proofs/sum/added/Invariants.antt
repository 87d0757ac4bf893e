-- the numbers that are left give from here what all of them give from the total
use Rattle.std.proofs.Common.{◌≡◌, Some, drop}
use Rattle.nys_native.specs.Sums.{sum_on}
use Rattle.nys_native.proofs.sum.added.Given as goal

abbrev pub invariant-loop-number : goal.invariant-loop-number
invariant-loop-number l = sum_on (Some l.sum) (drop l.number-index l.numbers) ≡ sum_on (Some l.fn.total) l.fn.numbers

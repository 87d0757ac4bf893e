-- the bytes are those of the numbers so far, which fit
use Rattle.std.proofs.Common.{take}
use Rattle.nys_replica.specs.Packing.{IsPacked}
use Rattle.nys_replica.proofs.packing.pack.Given as goal

abbrev pub invariant-loop-number : goal.invariant-loop-number
invariant-loop-number l = IsPacked l.out (take l.number-index l.numbers)

-- numbers that are packed so begin with those so far, and what is left is the bytes of the others
use Rattle.std.proofs.Common.{◌≡◌, ℤ, List, ◌++◌, length}
use Rattle.nys_replica.specs.Packing.{IsPacked}
use Rattle.nys_replica.proofs.packing.unpack.Given as goal

abbrev pub invariant-loop-bits : goal.invariant-loop-bits
invariant-loop-bits l = (numbers : List ℤ) → IsPacked l.bytes numbers
    → (rest : List ℤ) × (numbers ≡ l.found.items ++ rest) × IsPacked l.cursor.left rest

abbrev pub decreases-loop-bits : goal.decreases-loop-bits
decreases-loop-bits l = length l.cursor.left

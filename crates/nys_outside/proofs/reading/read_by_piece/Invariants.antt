use Rattle.std.proofs.Common.{length, ◌+◌, ◌-◌, ◌≤◌}
use Rattle.nys_outside.proofs.InputLemmas.{TookSoFar}
use Rattle.nys_outside.proofs.reading.read_by_piece.Given as goal

-- the bytes are those read so far, one past the limit at most, and the count of faults did not fall
abbrev pub invariant-loop-bytes : goal.invariant-loop-bytes
invariant-loop-bytes g l =
    (length l.bytes.items ≤ l.limit + 1)
    × TookSoFar (g.S.Source.told l.fn.source) (g.S.Source.told l.source) l.bytes.items
    × (g.S.Source.faults l.fn.source ≤ g.S.Source.faults l.source)

abbrev pub decreases-loop-bytes : goal.decreases-loop-bytes
decreases-loop-bytes g l = l.limit + 1 - length l.bytes.items

-- The places so far have what they had.
use Rattle.std.proofs.Common.{◌≡◌, ℕ, ◌≤◌, ◌-◌, ◌+◌, length}
use Rattle.std.specs.Prelude.{None, slice_index_or}
use Rattle.nys_attest.proofs.kept.make_room.Given as goal

abbrev pub invariant-loop-kept : goal.invariant-loop-kept
invariant-loop-kept l =
    ((i : ℕ) → slice_index_or l.kept.items i None ≡ slice_index_or l.fn.kept.items i None)
    × (length l.kept.items ≤ 64)

abbrev pub decreases-loop-kept : goal.decreases-loop-kept
decreases-loop-kept l = 64 - length l.kept.items

use Rattle.std.proofs.Common.{◌≡◌, ℕ, ◌<◌, length}
use Rattle.std.specs.Prelude.{slice_index_or}
use Rattle.nys_source.specs.Tables.{lists_at}
use Rattle.nys_olympus.proofs.opening.lengths_of.Given as goal

-- the logs so far have their lengths
abbrev pub invariant-loop-h : goal.invariant-loop-h
invariant-loop-h l = ((k : ℕ) → k < l.h → slice_index_or l.lengths k 0 ≡ length (lists_at l.logs k)) × (length l.lengths ≡ 32)

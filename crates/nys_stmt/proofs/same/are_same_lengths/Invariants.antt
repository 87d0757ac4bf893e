-- The rests are equal exactly where all is.
use Rattle.std.proofs.Common.{◌≡◌, drop, length}
use Rattle.std.specs.Prelude.{◌↔◌}
use Rattle.nys_stmt.proofs.same.are_same_lengths.Given as goal

abbrev pub invariant-loop-i : goal.invariant-loop-i
invariant-loop-i l = ((drop l.i l.a ≡ drop l.i l.b) ↔ (l.a ≡ l.b)) × (length l.a ≡ length l.b)

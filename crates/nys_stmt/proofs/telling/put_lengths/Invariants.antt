use Rattle.std.proofs.Common.{◌≡◌, ◌++◌, drop}
use Rattle.std.specs.List.{flat_map}
use Rattle.nys_stmt.specs.Printed.{length_word}
use Rattle.nys_stmt.proofs.telling.put_lengths.Given as goal

-- what is written, and what is left to write, is all of it
abbrev pub invariant-loop-i : goal.invariant-loop-i
invariant-loop-i l = l.out ++ flat_map length_word (drop l.i l.lengths) ≡ l.fn.out ++ flat_map length_word l.lengths

use Rattle.std.proofs.Common.{◌≡◌, ◌++◌, drop}
use Rattle.std.specs.List.{flat_map}
use Rattle.nys_stmt.specs.Spelling.{length_bytes}
use Rattle.nys_stmt.proofs.spelling.put_each_length.Given as goal

-- what is written, and what is left to write, is all of it
abbrev pub invariant-loop-i : goal.invariant-loop-i
invariant-loop-i l = l.out ++ flat_map length_bytes (drop l.i l.lengths) ≡ l.fn.out ++ flat_map length_bytes l.lengths

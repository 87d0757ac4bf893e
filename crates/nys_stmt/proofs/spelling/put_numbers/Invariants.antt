use Rattle.std.proofs.Common.{◌≡◌, ◌++◌, drop}
use Rattle.std.specs.List.{flat_map}
use Rattle.nys_stmt.specs.Spelling.{number_bytes}
use Rattle.nys_stmt.proofs.spelling.put_numbers.Given as goal

-- what is written, and what is left to write, is all of it
abbrev pub invariant-loop-number : goal.invariant-loop-number
invariant-loop-number l = l.out ++ flat_map number_bytes (drop l.number-index l.numbers) ≡ l.fn.out ++ flat_map number_bytes l.numbers

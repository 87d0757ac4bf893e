use Rattle.std.proofs.Common.{ℕ, List, ◌++◌, take, All}
use Rattle.std.specs.Prelude.{FitsSigned}
use Rattle.std.specs.List.{flat_map}
use Rattle.std.specs.Int.{w64}
use Rattle.sha2.specs.Hashers.{Holds256}
use Rattle.nys_stmt.specs.Spelling.{number_bytes}
use Rattle.nys_stmt.proofs.digest.hash_numbers.Given as goal

-- the hasher holds the numbers so far behind what it held; those fit
abbrev pub invariant-loop-number : goal.invariant-loop-number
invariant-loop-number l =
    ((m : List ℕ) → Holds256 l.fn.hasher m → Holds256 l.hasher (m ++ flat_map number_bytes (take l.number-index l.numbers)))
    × All (λ z. FitsSigned w64 z) (take l.number-index l.numbers)

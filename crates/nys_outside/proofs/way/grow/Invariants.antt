use Rattle.std.proofs.Common.{ℕ, ◌≡◌, length, get_or}
use Rattle.nys_outside.specs.Ways.{no_way}
use Rattle.nys_outside.proofs.way.grow.Given as goal

-- one more direction for each turn, and every place has what it had
abbrev pub invariant-loop : goal.invariant-loop
invariant-loop l =
    (length l.ways.items ≡ l.counter)
    × ((i : ℕ) → get_or l.ways.items i no_way ≡ get_or l.fn.ways.items i no_way)

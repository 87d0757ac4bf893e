use Rattle.std.proofs.Common.{ℕ, List, All}
use Rattle.nys_mac.specs.States.{AreStatesOf, IsPairUnder}
use Rattle.nys_mac.proofs.pairs.push_row.Given as goal

-- what the table holds is right under the key of the master states, if it was so before
abbrev pub invariant-loop-other : goal.invariant-loop-other
invariant-loop-other l = (key : List ℕ) → AreStatesOf l.master key → All (IsPairUnder key) l.fn.table.items → All (IsPairUnder key) l.table.items

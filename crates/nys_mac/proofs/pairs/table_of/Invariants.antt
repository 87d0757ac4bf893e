use Rattle.std.proofs.Common.{All}
use Rattle.nys_mac.specs.States.{IsPairUnder}
use Rattle.nys_mac.proofs.pairs.table_of.Given as goal

-- what the table holds is right
abbrev pub invariant-loop-row : goal.invariant-loop-row
invariant-loop-row l = All (IsPairUnder l.master) l.table.items

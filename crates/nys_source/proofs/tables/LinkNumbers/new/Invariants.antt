-- the rows so far are empty ones
use Rattle.std.proofs.Common.{◌≡◌, replicate}
use Rattle.nys_source.proofs.tables.LinkNumbers.new.Given as goal

abbrev pub invariant-loop-host : goal.invariant-loop-host
invariant-loop-host l = l.rows.items ≡ replicate l._host (replicate 32 0)

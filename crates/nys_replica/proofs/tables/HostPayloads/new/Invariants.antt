-- the rows so far are empty ones
use Rattle.std.proofs.Common.{◌≡◌, [], replicate}
use Rattle.nys_replica.proofs.tables.HostPayloads.new.Given as goal

abbrev pub invariant-loop-host : goal.invariant-loop-host
invariant-loop-host l = l.rows.items ≡ replicate l._host []

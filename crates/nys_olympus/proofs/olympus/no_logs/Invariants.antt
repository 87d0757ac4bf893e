use Rattle.std.proofs.Common.{◌≡◌}
use Rattle.std.specs.Prelude.{replicate}
use Rattle.std.specs.Prelude.{[]}
use Rattle.nys_olympus.proofs.olympus.no_logs.Given as goal

-- as many rows as there were turns
abbrev pub invariant-loop : goal.invariant-loop
invariant-loop l = l.logs.items ≡ replicate l.counter []

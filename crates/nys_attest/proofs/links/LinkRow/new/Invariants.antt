-- As many links without a range as there were turns.
use Rattle.std.proofs.Common.{◌≡◌}
use Rattle.std.specs.Prelude.{None, replicate}
use Rattle.nys_attest.proofs.links.LinkRow.new.Given as goal

abbrev pub invariant-loop : goal.invariant-loop
invariant-loop l = l.ranges.items ≡ replicate l.counter None

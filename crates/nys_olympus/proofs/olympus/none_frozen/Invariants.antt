use Rattle.std.proofs.Common.{◌≡◌}
use Rattle.std.specs.Prelude.{replicate}
use Rattle.nys_votes.specs.Seats.{no_seats}
use Rattle.nys_olympus.proofs.olympus.none_frozen.Given as goal

-- as many rows as there were turns
abbrev pub invariant-loop : goal.invariant-loop
invariant-loop l = l.frozen.items ≡ replicate l.counter no_seats

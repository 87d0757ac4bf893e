-- As many empty seats as there were turns.
use Rattle.std.proofs.Common.{◌≡◌, None}
use Rattle.std.specs.Prelude.{replicate}
use Rattle.nys_seats.proofs.seats.Seats.new.Given as goal

abbrev pub invariant-loop : goal.invariant-loop
invariant-loop g l = l.held.items ≡ replicate l.counter None

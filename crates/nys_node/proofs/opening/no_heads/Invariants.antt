-- As many banks without heads as there were turns.
use Rattle.std.proofs.Common.{◌≡◌, replicate}
use Rattle.nys_votes.specs.Seats.{no_seats}
use Rattle.nys_node.proofs.opening.no_heads.Given as goal

abbrev pub invariant-loop : goal.invariant-loop
invariant-loop l = l.banks.items ≡ replicate l.counter (l.credit, no_seats)

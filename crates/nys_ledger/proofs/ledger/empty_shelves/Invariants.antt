-- As many empty shelves as there were turns.
use Rattle.std.proofs.Common.{◌≡◌, [], replicate}
use Rattle.nys_ledger.proofs.ledger.empty_shelves.Given as goal

abbrev pub invariant-loop : goal.invariant-loop
invariant-loop l = l.shelves.items ≡ replicate l.counter []

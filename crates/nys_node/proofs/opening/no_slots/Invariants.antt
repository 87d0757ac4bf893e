-- As many lists without slots as there were turns.
use Rattle.std.proofs.Common.{◌≡◌, replicate, []}
use Rattle.nys_node.proofs.opening.no_slots.Given as goal

abbrev pub invariant-loop : goal.invariant-loop
invariant-loop l = l.kept.items ≡ replicate l.counter []

-- As many places without a replica as there were turns.
use Rattle.std.proofs.Common.{◌≡◌, None, replicate}
use Rattle.nys_node.proofs.opening.no_replicas.Given as goal

abbrev pub invariant-loop : goal.invariant-loop
invariant-loop g l = l.replicas.items ≡ replicate l.counter None

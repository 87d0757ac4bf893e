-- Nothing waits, and no host has a replica.
use Rattle.std.proofs.Common.{ap, refl}
use Rattle.nys_node.proofs.node.Node.newborn.Goals as goal

pub returns : goal.returns
returns g c = λ scope low. record {
  me = refl;
  host = low;
  waiting = ap (λ b. b.items) c.in_ok-with_capacity.ensures;
  room = ap (λ b. b.capacity) c.in_ok-with_capacity.ensures;
  replicas = c.in_ok-no_replicas.ensures scope.rules;
}

-- No place has a replica.
use Rattle.std.proofs.Common.{None, [], false, refl, subst}
use Rattle.nys_node.specs.Entering.{AreRows}
use Rattle.nys_node.specs.Means.{IsReplicaOf}
use Rattle.nys_node.proofs.EnteringLemmas.{most_are, rows_alike}
use Rattle.nys_node.proofs.opening.no_replicas.Goals as goal

pub returns : goal.returns
returns g c = λ protocol.
    subst (λ n. AreRows n c.loop.replicas.items (λ h replica. IsReplicaOf protocol h replica [] 0 false)) (most_are c.loop.counter 32 c.loop.auto.counter-end c.loop-test.false)
    (rows_alike c.loop.counter c.loop.replicas.items (λ h replica. IsReplicaOf protocol h replica [] 0 false) None c.loop.invariant (λ k. (refl, refl, refl)))

-- What a meant view says of the rows that a node keeps.
use Rattle.std.proofs.Common.{◌≡◌, ℕ, ◌<◌, ◌≤◌, [], length, refl, arith}
use mathlib.Core.Path.{subst, sym}
use Rattle.std.specs.Prelude.{Option, Some, None, slice_get, slice_index_or}
use Rattle.std.proofs.lemmas.Option.{slice_get-get_or}
use Rattle.nys_replica.specs.Stands.{kept_from, StandsFor}
use Rattle.nys_replica.specs.declared.replica.Replica.{Replica}
use Rattle.nys_rules.specs.Scope.{Scope}
use Rattle.nys_agreement.specs.Alone.{alone}
use Rattle.nys_rules.specs.View.{next_number, View}
use Rattle.nys_node.specs.Means.{IsReplicaOf, Means}
use Rattle.nys_node.specs.declared.node.Node.{Node}

-- a replica that the node has stands for the view's log of its host
pub replica_stands : {P S : Type 0} (scope : Scope S) (node : Node P S) (v : View) → Means scope node v → (h : ℕ) (replica : Replica P S)
    → slice_get node.replicas.items h ≡ Some (Some replica) → StandsFor scope.rules h replica (v.logs h)
replica_stands scope node v m h replica at = (m.replicas h (Some replica) at).0

-- it keeps the entries that the view's node keeps
pub replica_keeps : {P S : Type 0} (scope : Scope S) (node : Node P S) (v : View) → Means scope node v → (h : ℕ) (replica : Replica P S)
    → slice_get node.replicas.items h ≡ Some (Some replica) → kept_from replica ≡ v.kept_from h
replica_keeps scope node v m h replica at = (m.replicas h (Some replica) at).2

-- the view's log of a host of which the node has no replica is empty
pub no_log : {P S : Type 0} (scope : Scope S) (node : Node P S) (v : View) → Means scope node v → (h : ℕ) → h < 32
    → (h < length node.replicas.items → slice_get node.replicas.items h ≡ Some None) → v.logs h ≡ []
no_log scope node v m h inside at = (m.replicas h None (at (omega (arith, m.rows, inside)))).0

-- an empty log has taken no message
pub none_next : {S : Type 0} (scope : Scope S) (v : View) (p h : ℕ) → v.logs h ≡ [] → 0 ≡ next_number scope v p h
unfolding next_number
none_next scope v p h empty = subst (λ log. 0 ≡ (alone scope.rules h log).received p h) (sym empty) refl

-- nor is an entry of it forgotten
pub none_kept : {P S : Type 0} (scope : Scope S) (node : Node P S) (v : View) → Means scope node v → (h : ℕ) → h < 32
    → (h < length node.replicas.items → slice_get node.replicas.items h ≡ Some None) → v.kept_from h ≡ 0
none_kept scope node v m h inside at = (m.replicas h None (at (omega (arith, m.rows, inside)))).2

-- of no log more entries are forgotten than it has
pub kept_within : {P S : Type 0} (scope : Scope S) (node : Node P S) (v : View) → Means scope node v → (h : ℕ) → h < 32
    → v.kept_from h ≤ length (v.logs h)
kept_within {P} {S} scope node v m h inside =
    by (slice_index_or node.replicas.items h None)
    (m.replicas h _ (slice_get-get_or node.replicas.items h None (omega (arith, m.rows, inside))))
  where
    by : (replica : Option (Replica P S)) → IsReplicaOf scope.rules h replica (v.logs h) (v.kept_from h) (v.known h)
        → v.kept_from h ≤ length (v.logs h)
    by None is = let none = is.2 in omega (arith, none)
    by (Some replica) is = let count = is.0.count in let kept = is.2 in omega (arith, count, kept)

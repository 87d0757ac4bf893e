-- Which views a node means.
use Rattle.std.specs.Prelude.{◌≡◌, ℕ, ◌<◌, ◌≤◌, Bool, true, false, ℤ, List, [], length, slice_get, Option, Some, None}
use Rattle.nys_rules.specs.declared.limits.TheConstants.{MAX_WAITING}
use Rattle.nys_hosts.specs.declared.limits.TheConstants.{MAX_HOSTS}
use Rattle.nys_attest.specs.Ranges.{link_at}
use Rattle.nys_attest.specs.Windows.{next_of, seats_at, Window}
use Rattle.nys_bytes.specs.declared.content.Content.{Content}
use Rattle.nys_hosts.specs.Sets.{has}
use Rattle.nys_replica.specs.Stands.{kept_from, StandsFor}
use Rattle.nys_replica.specs.declared.replica.Replica.{Replica}
use Rattle.nys_rules.specs.Scope.{Scope}
use Rattle.nys_rules.specs.View.{is_live, next_number, View}
use Rattle.nys_rules.specs.declared.kept.Attested.{Attested}
use Rattle.nys_node.specs.Sound.{IsSound}
use Rattle.nys_sending.specs.Tables.{IsTable}
use Rattle.nys_node.specs.declared.node.Node.{Node}
use Rattle.nys_source.specs.Rules.{Rules}

-- the replica of a host stands for the log that the view has, and keeps its entries from this slot on; a host that
-- was never guarded has none
abbrev pub IsReplicaOf : {P S : Type 0} → Rules S → ℕ → Option (Replica P S) → List Content → (kept : ℕ) → (known : Bool) → Type 0
IsReplicaOf rules h None log kept known = (log ≡ []) × (known ≡ false) × (kept ≡ 0)
IsReplicaOf rules h (Some replica) log kept known =
    StandsFor rules h replica log × (known ≡ true) × (kept_from replica ≡ kept)

-- what is kept of the links into a host, where `next` is the number that comes next on each, by sender:
-- the table has that number, and all that was heard for it or a later one
pub record HearsOf (table : List Window) (next : ℕ → ℕ) (heard : ℕ → ℕ → List (Option (List ℤ))) : Type 0 where
  pub next_is : (p : ℕ) → p < MAX_HOSTS → next_of table p ≡ next p
  pub heard_is : (p k : ℕ) → p < MAX_HOSTS → next p ≤ k → seats_at table p k ≡ heard p k

-- the ranges of numbers that were attested, by link
abbrev pub AreLinks : List (List (Option Attested)) → (ℕ → ℕ → Option Attested) → Type 0
AreLinks links attested = (p h : ℕ) → p < MAX_HOSTS → h < MAX_HOSTS → link_at links p h ≡ attested p h

-- the node keeps all that the view has
pub record Means {P S : Type 0} (scope : Scope S) (node : Node P S) (v : View) : Type 0 where
  pub me : node.me ≡ v.me
  -- its host is one of the protocol
  pub host : v.me < scope.rules.hosts
  pub few : scope.rules.hosts ≤ MAX_HOSTS
  pub epoch : node.epoch ≡ v.epoch
  pub within : v.epoch < scope.epochs
  pub wedged : node.wedged ≡ v.wedged
  pub live : (h : ℕ) → has node.live h ≡ is_live scope v h
  pub retired : (h : ℕ) → has node.retired h ≡ v.retired h
  pub base : IsTable node.base v.base
  pub voted_to : IsTable node.voted_to v.voted_to
  pub waiting : node.waiting.items ≡ v.waiting
  pub room : node.waiting.capacity ≡ MAX_WAITING
  pub desks : IsTable node.desks.items v.desks
  pub slots : IsTable node.kept.items v.kept
  pub rows : length node.replicas.items ≡ MAX_HOSTS
  pub replicas : (h : ℕ) (replica : Option (Replica P S)) → slice_get node.replicas.items h ≡ Some replica
      → IsReplicaOf scope.rules h replica (v.logs h) (v.kept_from h) (v.known h)
  -- it has a replica of each host that it guards
  pub kept : (h : ℕ) → is_live scope v h ≡ true → v.known h ≡ true
  -- the heads of links, by receiver, each table with the credit of the epoch
  pub banks : IsTable node.banks.items (λ h. (scope.credit v.epoch, v.heads h))
  pub links : AreLinks node.links v.attested
  pub tables : length node.heard.items ≡ MAX_HOSTS
  pub heard : (h : ℕ) (table : List Window) → slice_get node.heard.items h ≡ Some table
      → HearsOf table (λ p. next_number scope v p h) (λ p k. v.heard p h k)

-- what holds of each view that the node means
abbrev pub Known : {P S : Type 0} → Scope S → Node P S → (View → Type 0) → Type 0
Known scope node F = (v : View) → Means scope node v → F v

-- the node means some view
abbrev pub IsMeant : {P S : Type 0} → Scope S → Node P S → Type 0
IsMeant scope node = (v : View) × Means scope node v

-- the node means the view, and the view is one that a node comes to
pub record IsViewOf {P S : Type 0} (scope : Scope S) (node : Node P S) (v : View) : Type 0 where
  pub means : Means scope node v
  pub sound : IsSound scope v

-- the node means some view that a node comes to
abbrev pub HasView : {P S : Type 0} → Scope S → Node P S → Type 0
HasView scope node = (v : View) × IsViewOf scope node v

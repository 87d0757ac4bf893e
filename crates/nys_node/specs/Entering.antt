-- How a node begins an epoch: what it takes over, and what begins empty.
use Rattle.std.specs.Prelude.{◌≡◌, ℕ, ◌<◌, Bool, false, ◌&&◌, ◌||◌, nat_lt, not, List, [], length, slice_get, Option, Some, None}
use Rattle.nys_rules.specs.declared.limits.TheConstants.{MAX_WAITING}
use Rattle.nys_hosts.specs.declared.limits.TheConstants.{MAX_HOSTS}
use Rattle.nys_agreement.specs.Alone.{alone}
use Rattle.nys_attest.specs.Windows.{Window}
use Rattle.nys_bytes.specs.declared.content.Content.{Content}
use Rattle.nys_node.specs.Means.{HearsOf, IsReplicaOf}
use Rattle.nys_node.specs.declared.node.Node.{Node}
use Rattle.nys_replica.specs.declared.replica.Replica.{Replica}
use Rattle.nys_rules.specs.Scope.{Scope}
use Rattle.nys_rules.specs.View.{empty_desk, kept_at, View}
use Rattle.nys_source.specs.Rules.{Rules}
use Rattle.nys_votes.specs.Seats.{no_seats}

-- the list has so many rows, and each is such
pub record AreRows {A : Type 0} (n : ℕ) (items : List A) (Fits : ℕ → A → Type 0) : Type 0 where
  pub size : length items ≡ n
  pub each : (x : ℕ) (item : A) → slice_get items x ≡ Some item → Fits x item

-- the replicas by host stand for the logs, keep their entries from these slots on, and are of the hosts that are known
abbrev pub AreReplicas : {P S : Type 0} → Rules S → List (Option (Replica P S)) → (ℕ → List Content) → (kept : ℕ → ℕ)
    → (known : ℕ → Bool) → Type 0
AreReplicas rules items logs kept known =
    AreRows MAX_HOSTS items (λ h replica. IsReplicaOf rules h replica (logs h) (kept h) (known h))

-- the table of the links into a host has the numbers that come next in its log, and nothing was heard
abbrev pub HearsNothing : {S : Type 0} → Rules S → (h : ℕ) → List Content → List Window → Type 0
HearsNothing rules h log table = HearsOf table (λ p. (alone rules h log).received p h) (λ p k. no_seats)

-- the tables by host
abbrev pub HearNothing : {S : Type 0} → Rules S → (ℕ → List Content) → List (List Window) → Type 0
HearNothing rules logs tables = AreRows MAX_HOSTS tables (λ h table. HearsNothing rules h (logs h) table)

-- the node has what a view takes over into an epoch: its host, its waiting inputs, its logs
pub record Carries {P S : Type 0} (scope : Scope S) (node : Node P S) (v : View) : Type 0 where
  pub me : node.me ≡ v.me
  pub host : v.me < scope.rules.hosts
  pub waiting : node.waiting.items ≡ v.waiting
  pub room : node.waiting.capacity ≡ MAX_WAITING
  pub replicas : AreReplicas scope.rules node.replicas.items v.logs v.kept_from v.known

-- the view in which an epoch begins, before any link is attested
abbrev pub entered : {S : Type 0} → Scope S → (epoch : ℕ) → (base : ℕ → ℕ) → (retired : ℕ → Bool) → View → View
entered scope epoch base retired v = record {
  me = v.me;
  epoch = epoch;
  wedged = false;
  base = base;
  retired = retired;
  known = λ h. v.known h || (nat_lt h scope.rules.hosts && scope.guards epoch h v.me);
  waiting = v.waiting;
  logs = v.logs;
  kept_from = λ h.
      kept_at (nat_lt h scope.rules.hosts && (scope.guards epoch h v.me && not (retired h))) (base h) (v.kept_from h)
      (length (v.logs h));
  desks = λ _. empty_desk;
  voted_to = base;
  kept = λ _. [];
  attested = λ _ _. None;
  heard = λ _ _ _. no_seats;
  heads = λ _. no_seats;
}

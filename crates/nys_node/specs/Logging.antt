-- The steps in which a node logs an entry.
use Rattle.std.specs.Prelude.{◌≡◌, ℕ, ◌+◌, ◌<◌, ◌==◌, if◌then◌else◌, Bool, true, ℤ, List, [], ◌∷◌, ◌++◌, drop, Option, Some, None}
use Rattle.nys_stmt.specs.declared.limits.TheConstants.{MAX_NUMBER}
use Rattle.nys_hosts.specs.declared.limits.TheConstants.{MAX_HOSTS, MAX_SLOTS}
use Rattle.nys_attest.specs.Windows.{next_of, seats_at, Window}
use Rattle.nys_bytes.specs.declared.content.Content.{Content}
use Rattle.nys_bytes.specs.declared.content.Content.TheVariants.{External, Message}
use Rattle.nys_replica.specs.Stands.{CanTake, kept_from, StandsFor}
use Rattle.nys_replica.specs.declared.replica.Replica.{Replica}
use Rattle.nys_rules.specs.Logging.{fits, heads_after, left_by}
use Rattle.nys_rules.specs.Scope.{Scope}
use Rattle.nys_rules.specs.View.{length_of, View}
use Rattle.nys_source.specs.Rules.{Rules}
use Rattle.nys_source.specs.Tables.{put, put_at}
use Rattle.nys_votes.specs.Seats.{no_seats}
use Rattle.nys_node.specs.Means.{Means}
use Rattle.nys_node.specs.declared.node.Node.{Node}

-- the node means a view that has the host's log with room for an entry, and the content comes next in it
pub record CanLog {P S : Type 0} (scope : Scope S) (node : Node P S) (h : ℕ) (content : Content) : Type 0 where
  pub view : View
  pub means : Means scope node view
  pub known : view.known h ≡ true
  pub room : length_of view h < MAX_SLOTS
  pub next : fits scope view h content ≡ true

-- the sender of a message is a host below 32
abbrev pub IsFromHost : Content → Type 0
IsFromHost (External payload) = Unit {0}
IsFromHost (Message p k payload) = p < MAX_HOSTS

-- the queue, without its oldest input where that left
abbrev pub with_oldest_left : (left : Bool) → List (List ℤ) → List (List ℤ)
with_oldest_left left waiting = if left then drop 1 waiting else waiting

-- what waits once the host's own log takes the content
abbrev pub left_at : ℕ → Content → View → List (List ℤ)
left_at h content v = (if v.me == h then left_by content v.waiting else v.waiting)

-- the view in which the oldest input has left the queue, where the host's own log takes it
abbrev pub with_left : ℕ → Content → View → View
with_left h content v = record v { waiting = left_at h content v }

-- the view in which a message is no head of its link any more
abbrev pub with_forgotten : ℕ → Content → View → View
with_forgotten h content v = record v { heads = put v.heads h (heads_after content (v.heads h)) }

-- the view in which the log of a host has a content more
abbrev pub with_log : ℕ → Content → View → View
with_log h content v = record v { logs = put v.logs h (v.logs h ++ content ∷ []) }

-- a replica is there, and the content comes next in its log
abbrev pub CanTakeIn : {P S : Type 0} → Rules S → Option (Replica P S) → Content → Type 0
CanTakeIn rules None content = ⊥
CanTakeIn rules (Some replica) content = CanTake rules replica content

-- the replica took the content, and keeps the entries that it kept
abbrev pub IsTakenIn : {P S : Type 0} → Rules S → (old new : Option (Replica P S)) → Content → Type 0
IsTakenIn rules None new content = ⊥
IsTakenIn rules (Some old) None content = ⊥
IsTakenIn rules (Some old) (Some new) content =
    ((h : ℕ) (log : List Content) → StandsFor rules h old log → StandsFor rules h new (log ++ content ∷ []))
    × (kept_from new ≡ kept_from old)

-- what is heard of a link goes on to the number behind a message
pub record IsMovedBy (p : ℕ) (old new : List Window) : Type 0 where
  pub next : (q : ℕ) → next_of new q ≡ put (next_of old) p (next_of old p + 1) q
  pub seats : (q k : ℕ) → seats_at new q k ≡ put_at (seats_at old) p (next_of old p) no_seats q k

-- what is heard of links once the content is taken
abbrev pub IsMoved : Content → (old new : List Window) → Type 0
IsMoved (External payload) old new = new ≡ old
IsMoved (Message p k payload) old new = IsMovedBy p old new

-- the number that a message has may grow by one
abbrev pub HasNext : Content → List Window → Type 0
HasNext (External payload) table = Unit {0}
HasNext (Message p k payload) table = (p < MAX_HOSTS) × (next_of table p < MAX_NUMBER + 1)

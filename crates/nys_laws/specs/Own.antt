-- What a host says itself about the slots of hosts, and what its node keeps of that. Liars say
-- nothing here: the ledger has no statement of theirs.
use Rattle.std.specs.Prelude.{◌≡◌, ◌≢◌, ℕ, ◌<◌, ◌≤◌, ◌⊎◌, List, Option, Some}
use Rattle.nys_bytes.specs.declared.content.Content.{Content}
use Rattle.nys_stmt.specs.declared.statement.Body.{Body}
use Rattle.nys_stmt.specs.declared.statement.Body.TheVariants as body
use Rattle.nys_stmt.specs.declared.statement.FilledKind.TheVariants as kind
use Rattle.nys_stmt.specs.declared.statement.Statement.{Statement}
use Rattle.nys_rules.specs.Forged.{Entry, HasMade}
use Rattle.nys_rules.specs.Scope.{olympus}
use Rattle.nys_rules.specs.Sending.{said_in}
use Rattle.nys_rules.specs.View.{Desk, length_of, View}
use Rattle.nys_rules.specs.World.{World}

-- the kinds of statement that bring a content into a slot
pub data Stage : Type 0 where
  -- the host proposes it
  Offered : Stage
  -- a guard backs it
  Ordered : Stage
  -- a guard votes to log it
  Delivered : Stage

-- the statement of that kind
abbrev pub body_at : Stage → (h slot : ℕ) → Content → Body
body_at Offered h slot content = body.Filled kind.Offer h slot content
body_at Ordered h slot content = body.Filled kind.Order h slot content
body_at Delivered h slot content = body.Filled kind.Deliver h slot content

-- what a node keeps of its own statement of that kind for the open slot
abbrev pub own_at : Stage → Desk → Option Content
own_at Offered desk = desk.offered
own_at Ordered desk = desk.ordered
own_at Delivered desk = desk.delivered

-- party g said the content at a stage of a slot of h, in the epoch
abbrev pub HasSaid : List Entry → (g : ℕ) → Stage → (e h slot : ℕ) → Content → Type 0
HasSaid ledger g stage e h slot content =
    HasMade ledger g (said_in e (body_at stage h slot content))

-- what is kept as its own by g, which is in the epoch with logs of these lengths, is what the
-- ledger has of it
pub record AreOwn (ledger : List Entry) (g epoch : ℕ) (lengths : ℕ → ℕ)
    (own : Stage → ℕ → Option Content) : Type 0 where
  -- it made no statement of a later epoch
  pub past : (s : Statement) → HasMade ledger g s → s.epoch ≤ epoch
  -- it said what is kept, of the open slot
  pub kept : (stage : Stage) (h : ℕ) (content : Content) → own stage h ≡ Some content
      → HasSaid ledger g stage epoch h (lengths h) content
  -- what it said in this epoch is of an earlier slot, or is kept
  pub said : (stage : Stage) (h slot : ℕ) (content : Content)
      → HasSaid ledger g stage epoch h slot content
      → (slot < lengths h) ⊎ ((slot ≡ lengths h) × (own stage h ≡ Some content))
  -- it said one content at each stage of a slot
  pub once : (stage : Stage) (e h slot : ℕ) (content other : Content)
      → HasSaid ledger g stage e h slot content → HasSaid ledger g stage e h slot other
      → content ≡ other

-- the view of the node of g keeps its own statements as the ledger has them
pub record KeepsOwn (g : ℕ) (ledger : List Entry) (v : View) : Type 0 where
  pub host : v.me ≡ g
  pub own : AreOwn ledger g v.epoch (length_of v) (λ stage h. own_at stage (v.desks h))

-- the nodes of all hosts do
abbrev pub KeepOwn : World → Type 0
KeepOwn w = (g : ℕ) → g ≢ olympus → KeepsOwn g w.ledger (w.nodes g)

-- What a node keeps of other parties: where the maker is an honest host, it said so. Of a liar
-- nothing is told.
use Rattle.std.specs.Prelude.{◌≡◌, ◌≢◌, ℕ, ◌<◌, true, ℤ, List, Some}
use Rattle.nys_bytes.specs.declared.content.Content.{Content}
use Rattle.nys_stmt.specs.declared.statement.Body.TheVariants as body
use Rattle.nys_stmt.specs.declared.statement.Statement.{Statement}
use Rattle.nys_votes.specs.Seats.{seat_of}
use Rattle.nys_votes.specs.declared.vote.Vote.{Vote}
use Rattle.nys_rules.specs.Forged.{Entry, HasMade}
use Rattle.nys_rules.specs.Scope.{olympus}
use Rattle.nys_rules.specs.Sending.{said_in}
use Rattle.nys_rules.specs.View.{Desk, length_of, View}
use Rattle.nys_rules.specs.World.{is_honest, Setting, World}
use Rattle.nys_laws.specs.Own.{body_at, Stage}
use Rattle.nys_laws.specs.Own.Stage.{Offered, Ordered, Delivered}

-- the host made the statement, unless it is a liar
abbrev pub WasMade : {S : Type 0} → Setting S → List Entry → ℕ → Statement → Type 0
WasMade setting ledger m statement =
    m < olympus → is_honest setting m ≡ true → HasMade ledger m statement

-- the host said the content at a stage of a slot of h in the epoch, unless it is a liar
abbrev pub WasSaid : {S : Type 0} → Setting S → List Entry → (e h slot : ℕ) → Stage → (m : ℕ)
    → Content → Type 0
WasSaid setting ledger e h slot stage m content =
    WasMade setting ledger m (said_in e (body_at stage h slot content))

-- what stands on a desk of h was said by its makers
pub record IsTrueDesk (Said : Stage → (m : ℕ) → Content → Type 0) (h : ℕ)
    (desk : Desk) : Type 0 where
  -- each maker of a vote made it
  pub votes : (m : ℕ) (vote : Vote) → seat_of desk.votes m ≡ Some vote
      → Said Delivered m vote.content
  -- the orders that are collected are of the own offer, and each maker made its order
  pub orders : (m : ℕ) (tags : List (ℕ × List ℕ)) → seat_of desk.orders m ≡ Some tags
      → (content : Content) × (desk.offered ≡ Some content) × Said Ordered m content
  -- the host made the offer that is held
  pub held : (content : Content) → desk.held ≡ Some content → Said Offered h content

-- what the view of the node of g keeps of others was said by them
pub record HearsTruly {S : Type 0} (setting : Setting S) (g : ℕ) (ledger : List Entry)
    (v : View) : Type 0 where
  pub host : v.me ≡ g
  -- each desk is about the open slot, in the epoch of the node
  pub desks : (h : ℕ)
      → IsTrueDesk (WasSaid setting ledger v.epoch h (length_of v h)) h (v.desks h)
  -- each maker of an attestation that is heard made it, in that epoch
  pub heard : (p h k m : ℕ) (payload : List ℤ) → seat_of (v.heard p h k) m ≡ Some payload
      → WasMade setting ledger m (said_in v.epoch (body.Attest p h k payload))

-- the nodes of all hosts keep what is true
abbrev pub HearTruly : {S : Type 0} → Setting S → World → Type 0
HearTruly setting w = (g : ℕ) → g ≢ olympus → HearsTruly setting g w.ledger (w.nodes g)

-- What the keeping of a node rests on: makers that guard, certificates that show a quorum, numbers of
-- links that it attested itself, and logs in which each entry fits what stands before it.
use Rattle.std.specs.Prelude.{◌≡◌, ◌≢◌, ℕ, ◌<◌, ◌≤◌, Bool, true, ℤ, List, ◌∷◌, ◌++◌, slice_get, Some}
use Rattle.nys_bytes.specs.declared.content.Content.{Content}
use Rattle.nys_agreement.specs.Alone.{Fits}
use Rattle.nys_source.specs.Rules.{Rules}
use Rattle.nys_stmt.specs.declared.statement.Body.TheVariants as body
use Rattle.nys_stmt.specs.declared.statement.FilledKind.TheVariants as kind
use Rattle.nys_votes.specs.Seats.{seat_of}
use Rattle.nys_votes.specs.declared.vote.Vote.{Vote}
use Rattle.nys_rules.specs.Certificates.{HasSeats}
use Rattle.nys_rules.specs.Forged.{Entry, HasMade}
use Rattle.nys_rules.specs.Scope.{olympus, Scope}
use Rattle.nys_rules.specs.Sending.{said_in}
use Rattle.nys_rules.specs.declared.kept.Attested.{Attested}
use Rattle.nys_rules.specs.View.{Desk, length_of, sent_to, View}
use Rattle.nys_rules.specs.World.{Setting, World}
use Rattle.nys_laws.specs.Heard.{HearsTruly}
use Rattle.nys_laws.specs.Own.{HasSaid, KeepsOwn}
use Rattle.nys_laws.specs.Own.Stage.{Delivered}
use Rattle.nys_laws.specs.Vouched.{GuardsLink, QuorumVouches}

-- what stands on a desk of h, where these are the guards of h, a content is certified only where a
-- quorum ordered it, and the log has reached its base or not
pub record RestsDesk (guards : ℕ → Bool) (IsOrdered : Content → Type 0) (HasReached : Type 0)
    (desk : Desk) : Type 0 where
  -- each maker of a vote guards h
  pub votes : (m : ℕ) (vote : Vote) → seat_of desk.votes m ≡ Some vote → guards m ≡ true
  -- each maker of an order that is collected does
  pub orders : (m : ℕ) (tags : List (ℕ × List ℕ)) → seat_of desk.orders m ≡ Some tags → guards m ≡ true
  -- a certificate that was counted shows a quorum
  pub certified : (content : Content) → desk.certified ≡ Some content → IsOrdered content
  -- the node votes where the log has reached its base
  pub delivered : (content : Content) → desk.delivered ≡ Some content → HasReached

-- what the node of g attested in the epoch of a link from p to h, on which p sent these payloads: g
-- guards both, and made its statement of each number
pub record HasAttested {S : Type 0} (scope : Scope S) (g : ℕ) (ledger : List Entry) (e p h : ℕ)
    (sent : List (List ℤ)) (range : Attested) : Type 0 where
  pub guards : GuardsLink scope e p h g
  pub made : (k : ℕ) → range.first ≤ k → k < range.next
      → (payload : List ℤ) × (slice_get sent k ≡ Some payload)
      × HasMade ledger g (said_in e (body.Attest p h k payload))

-- each entry of the log of h fits what stands before it
abbrev pub AllFit : {S : Type 0} → Rules S → (h : ℕ) → List Content → Type 0
AllFit rules h log = (before rest : List Content) (content : Content) → log ≡ before ++ content ∷ rest
    → Fits rules h before content

-- what the view of the node of g keeps, and on what it rests
pub record RestsOn {S : Type 0} (setting : Setting S) (g : ℕ) (ledger : List Entry)
    (v : View) : Type 0 where
  pub host : v.me ≡ g
  -- each desk is about the open slot, in the epoch of the node
  pub desks : (h : ℕ)
      → RestsDesk (setting.scope.guards v.epoch h)
      (λ content. QuorumVouches setting ledger v.epoch h (body.Filled kind.Order h (length_of v h) content))
      (v.base h ≤ length_of v h) (v.desks h)
  -- each maker of an attestation that is heard guards both ends of its link
  pub heard : (p h k m : ℕ) (payload : List ℤ) → seat_of (v.heard p h k) m ≡ Some payload
      → GuardsLink setting.scope v.epoch p h m
  -- the numbers that it attests itself it attested in this epoch
  pub attested : (p h : ℕ) (range : Attested) → v.attested p h ≡ Some range
      → HasAttested setting.scope g ledger v.epoch p h (sent_to setting.scope v p h) range
  -- its Delivers of this epoch are of slots before those that it is free to vote in
  pub voted : (h slot : ℕ) (content : Content) → HasSaid ledger g Delivered v.epoch h slot content
      → slot < v.voted_to h
  pub logs : (h : ℕ) → AllFit setting.scope.rules h (v.logs h)

-- all that is known of what the node of g keeps
pub record IsSound {S : Type 0} (setting : Setting S) (g : ℕ) (ledger : List Entry)
    (v : View) : Type 0 where
  pub own : KeepsOwn g ledger v
  pub hears : HearsTruly setting g ledger v
  pub rests : RestsOn setting g ledger v
  pub seats : HasSeats v

-- the nodes of all hosts keep only what is known so
abbrev pub AreSound : {S : Type 0} → Setting S → World → Type 0
AreSound setting w = (g : ℕ) → g ≢ olympus → IsSound setting g w.ledger (w.nodes g)

-- What certificates and attestations show: at least so many different makers of a fact.
use Rattle.std.specs.Prelude.{◌≡◌, ◌≢◌, ℕ, ◌+◌, ◌<◌, ◌⊎◌, true, ℤ, List, Contains, length, Some}
use Rattle.nys_hosts.specs.declared.limits.TheConstants.{MAX_HOSTS}
use Rattle.nys_bytes.specs.declared.content.Content.{Content}
use Rattle.nys_bytes.specs.declared.content.Content.TheVariants.{External, Message}
use Rattle.nys_hosts.specs.Counts.{AtLeast}
use Rattle.nys_stmt.specs.declared.records.Record.{Record}
use Rattle.nys_stmt.specs.declared.statement.Body.TheVariants as body
use Rattle.nys_stmt.specs.declared.statement.FilledKind.TheVariants as kind
use Rattle.nys_stmt.specs.declared.tags.Tags.{Tags}
use Rattle.nys_stmt.specs.Makers.{AreMakers}
use Rattle.nys_votes.specs.Meaning.{Attests, VotedFor}
use Rattle.nys_votes.specs.Seats.{is_seated}
use Rattle.nys_rules.specs.Dropping.{accepted}
use Rattle.nys_rules.specs.Heads.{attested_payload, own_attest, with_own}
use Rattle.nys_rules.specs.Handling.{Asks, Handles, Takes}
use Rattle.nys_rules.specs.Noting.{noted}
use Rattle.nys_rules.specs.Packets.{Done}
use Rattle.nys_rules.specs.Rules.{to_certify, to_deliver, to_log, to_order}
use Rattle.nys_rules.specs.Scope.{quorum_at, Scope}
use Rattle.nys_rules.specs.View.{Desk, first_view, next_number, View}

-- what a desk keeps by maker has a seat for each host
pub record HasDeskSeats (desk : Desk) : Type 0 where
  pub orders : length desk.orders ≡ MAX_HOSTS
  pub votes : length desk.votes ≡ MAX_HOSTS

-- all that a view keeps by maker has one
pub record HasSeats (v : View) : Type 0 where
  pub desks : (h : ℕ) → HasDeskSeats (v.desks h)
  pub heard : (p h k : ℕ) → length (v.heard p h k) ≡ MAX_HOSTS

-- a node's view has its seats at the beginning and after each call
pub record KeepSeats {S : Type 0} (scope : Scope S) : Type 0 where
  pub first : (me : ℕ) → HasSeats (first_view scope me)
  pub handles : (v after : View) (frame : List ℕ) (done : Done) → Handles scope v frame after done
      → HasSeats v → HasSeats after
  pub takes : (v after : View) (payload : List ℤ) (done : Done) → Takes scope v payload after done
      → HasSeats v → HasSeats after
  pub asks : (v after : View) (done : Done) → Asks scope v after done → HasSeats v → HasSeats after

-- a quorum of the host's guards
abbrev pub AreQuorum : {S : Type 0} → Scope S → View → (h : ℕ) → (ℕ → Type 0) → Type 0
AreQuorum scope v h Made = AtLeast (quorum_at scope v.epoch h) Made

-- the node collected the maker's Order of its own offer
abbrev pub IsCollected : View → (h m : ℕ) → Type 0
IsCollected v h m = is_seated (v.desks h).orders m ≡ true

-- the node keeps the maker's vote to deliver the content
abbrev pub IsVoted : View → ℕ → Content → ℕ → Type 0
IsVoted v h content m = VotedFor content (v.desks h).votes m

-- the node heard the maker attest the payload, or attests it itself
abbrev pub IsAttested : {S : Type 0} → Scope S → View → (p h k : ℕ) → List ℤ → ℕ → Type 0
IsAttested scope v p h k payload m = Attests payload (with_own v.me (own_attest scope v p h k) (v.heard p h k)) m

-- a content may be ordered: an input, or the next message of its link, which more makers attest than may lie
abbrev pub IsNext : {S : Type 0} → Scope S → View → ℕ → Content → Type 0
IsNext scope v h (External payload) = Unit {0}
IsNext scope v h (Message p k payload) =
    (scope.rules.linked p h ≡ true)
    × (k ≡ next_number scope v p h)
    × AtLeast (scope.t v.epoch p + 1) (IsAttested scope v p h k payload)

-- the node is the host's, and a quorum ordered its offer
pub record IsOwnOrdered {S : Type 0} (scope : Scope S) (v : View) (h : ℕ) (content : Content) : Type 0 where
  pub host : v.me ≡ h
  pub offered : (v.desks h).offered ≡ Some content
  pub makers : AreQuorum scope v h (IsCollected v h)

-- the node is another guard, and counted a certificate
pub record IsCounted (v : View) (h : ℕ) (content : Content) : Type 0 where
  pub other : v.me ≢ h
  pub certified : (v.desks h).certified ≡ Some content

-- why a content may be delivered
abbrev pub IsDeliverable : {S : Type 0} → Scope S → View → ℕ → Content → Type 0
IsDeliverable scope v h content =
    IsOwnOrdered scope v h content
    ⊎ (IsCounted v h content ⊎ AtLeast (scope.t v.epoch h + 1) (IsVoted v h content))

-- the node accepts a tag of the maker in the record
pub record IsShown {S : Type 0} (scope : Scope S) (v : View) (r : Record) (m : ℕ) : Type 0 where
  pub tags : Tags
  pub among : Contains (accepted scope r.statement.epoch v.me r) tags
  pub maker_is : tags.maker ≡ m

-- the record shows that the maker ordered the content: the node accepts its tag, or is itself the maker
abbrev pub IsShownToOrder : {S : Type 0} → Scope S → View → ℕ → Content → Record → ℕ → Type 0
IsShownToOrder scope v h content r m =
    IsShown scope v r m ⊎ ((m ≡ v.me) × ((v.desks h).ordered ≡ Some content))

-- a record with which another guard may count a certificate: an Order of a content
pub record IsOrderOf {S : Type 0} (scope : Scope S) (v : View) (r : Record)
    (h slot : ℕ) (content : Content) : Type 0 where
  pub says : r.statement.body ≡ body.Filled kind.Order h slot content
  pub other : v.me ≢ h
  -- the node and all guards are hosts
  pub host : v.me < MAX_HOSTS
  pub hosts : (m : ℕ) → scope.guards r.statement.epoch h m ≡ true → m < MAX_HOSTS
  pub rule : AreMakers r.makers

-- what is read of a view
pub record ReadAsMakers {S : Type 0} (scope : Scope S) : Type 0 where
  -- a content that is ordered is the offer that the node holds, and an input or attested and next
  pub orders : (v : View) (h : ℕ) (content : Content) → HasSeats v → to_order scope v h ≡ Some content
      → ((v.desks h).held ≡ Some content) × IsNext scope v h content
  -- a quorum voted for a content that is logged
  pub logs : (v : View) (h : ℕ) (content : Content) → HasSeats v → to_log scope v h ≡ Some content
      → AreQuorum scope v h (IsVoted v h content)
  -- a content that is delivered is ordered, or more makers voted for it than may lie
  pub delivers : (v : View) (h : ℕ) (content : Content) → HasSeats v → to_deliver scope v h ≡ Some content
      → IsDeliverable scope v h content
  -- a quorum ordered a content that is certified
  pub certifies : (v : View) (h : ℕ) (content : Content) → HasSeats v → to_certify scope v h ≡ Some content
      → IsOwnOrdered scope v h content
  -- more makers attest a payload than may lie
  pub attests : (v : View) (p h k : ℕ) (payload : List ℤ) → HasSeats v
      → attested_payload scope v p h k ≡ Some payload
      → AtLeast (scope.t v.epoch p + 1) (IsAttested scope v p h k payload)
  -- a content that the record certifies was certified before, or the record shows a quorum to have ordered it
  pub counts : (v : View) (r : Record) (h slot : ℕ) (content other : Content)
      → IsOrderOf scope v r h slot content
      → ((noted scope v r).desks h).certified ≡ Some other
      → ((v.desks h).certified ≡ Some other)
      ⊎ ((other ≡ content) × AreQuorum scope v h (IsShownToOrder scope v h content r))

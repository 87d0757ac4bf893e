-- What each view keeps that a node comes to: numbers in their ranges, and a tag of each maker for the
-- guards that may be told. With it all that a node says is a record.
use Rattle.std.specs.Prelude.{◌≡◌, ℕ, ◌<◌, ◌≤◌, true, ℤ, List, length, All, Option, Some, None}
use Rattle.nys_stmt.specs.declared.limits.TheConstants.{MAX_SLOT}
use Rattle.nys_hosts.specs.declared.limits.TheConstants.{MAX_EPOCHS, MAX_SLOTS}
use Rattle.nys_bytes.specs.declared.content.Content.{Content}
use Rattle.nys_graph.specs.Links.{IsGraph}
use Rattle.nys_rules.specs.Certificates.{HasDeskSeats}
use Rattle.nys_rules.specs.Scope.{Scope}
use Rattle.nys_rules.specs.Sending.{guards_at, others}
use Rattle.nys_rules.specs.View.{Desk, empty_desk, length_of, View}
use Rattle.nys_rules.specs.declared.kept.Kept.{Kept}
use Rattle.nys_source.specs.Rules.{AreEffectsOf}
use Rattle.nys_stmt.specs.Ranges.{IsContentInRange}
use Rattle.nys_stmt.specs.declared.tags.Tags.{Tags}
use Rattle.nys_votes.specs.Seats.{count_all, seat_of}
use Rattle.nys_votes.specs.declared.vote.Vote.{Vote}

-- what is asked of the protocol and the epochs, so that numbers stay in their ranges
pub record IsScope {S : Type 0} (scope : Scope S) : Type 0 where
  -- there are at most 32 hosts, and links join two of them
  pub graph : IsGraph scope.rules.hosts scope.rules.linked
  pub epochs : scope.epochs ≤ MAX_EPOCHS
  -- all guards of hosts are hosts
  pub guards : (e h g : ℕ) → h < scope.rules.hosts → scope.guards e h g ≡ true → g < scope.rules.hosts
  -- each host is its own guard
  pub own : (e h : ℕ) → e < scope.epochs → h < scope.rules.hosts → scope.guards e h h ≡ true
  -- a step sends to neighbours alone, and has at most 64 effects
  pub effects : (h : ℕ) (s : S) (from : Option ℕ) (payload : List ℤ) → h < scope.rules.hosts
      → AreEffectsOf scope.rules h (scope.rules.next h s from payload).1

-- how many guards of a host the node can tell something
abbrev pub tellable : {S : Type 0} → Scope S → View → ℕ → ℕ
tellable scope v h = length (others v.me (guards_at scope v h))

-- a content that is there is in range
abbrev pub IsSomeInRange : Option Content → Type 0
IsSomeInRange None = Unit {0}
IsSomeInRange (Some content) = IsContentInRange content

-- the maker has a tag, where there are n parties to be told and n isn't 0
abbrev pub IsTagged : (n : ℕ) → List (ℕ × List ℕ) → Type 0
IsTagged n tags = 1 ≤ n → 1 ≤ length tags

-- contents on a desk are in range, and makers have tags
pub record IsSoundDesk (n : ℕ) (desk : Desk) : Type 0 where
  pub seats : HasDeskSeats desk
  pub offered : IsSomeInRange desk.offered
  pub held : IsSomeInRange desk.held
  pub ordered : IsSomeInRange desk.ordered
  pub certified : IsSomeInRange desk.certified
  pub delivered : IsSomeInRange desk.delivered
  pub orders : (m : ℕ) (tags : List (ℕ × List ℕ)) → seat_of desk.orders m ≡ Some tags → IsTagged n tags
  pub votes : (m : ℕ) (vote : Vote) → seat_of desk.votes m ≡ Some vote
      → IsContentInRange vote.content × IsTagged n vote.tags
  -- no certificate had more makers than are collected
  pub sent : desk.sent ≤ count_all desk.orders

-- the votes that are kept of a slot are a record of some makers
pub record IsSoundKept (n : ℕ) (kept : Kept) : Type 0 where
  pub slot : kept.slot ≤ MAX_SLOT
  pub content : IsContentInRange kept.content
  pub some : 1 ≤ length kept.makers
  pub tags : All (λ (t : Tags). IsTagged n t.tags) kept.makers

-- numbers are in their ranges, and makers have tags
pub record IsSound {S : Type 0} (scope : Scope S) (v : View) : Type 0 where
  -- no log has more than 1,024 entries
  pub short : (h : ℕ) → length_of v h ≤ MAX_SLOTS
  pub logs : (h : ℕ) → All IsContentInRange (v.logs h)
  -- nothing is known about a slot behind a full log
  pub full : (h : ℕ) → MAX_SLOTS ≤ length_of v h → v.desks h ≡ empty_desk
  pub desks : (h : ℕ) → IsSoundDesk (tellable scope v h) (v.desks h)
  pub voted_to : (h : ℕ) → v.voted_to h ≤ MAX_SLOTS
  pub kept : (h : ℕ) → All (IsSoundKept (tellable scope v h)) (v.kept h)

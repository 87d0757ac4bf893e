-- Credits: a message that enough guards hold as a head is taken within twice the credit slots.
use Rattle.std.specs.Prelude.{◌≡◌, ℕ, ◌+◌, ◌*◌, ◌-◌, ◌<◌, ◌≤◌, ◌⊎◌, false, true, ℤ, List, length, slice_get, Some, Ok}
use Rattle.nys_bytes.specs.declared.content.Content.{Content}
use Rattle.nys_bytes.specs.declared.content.Content.TheVariants.{Message}
use Rattle.nys_hosts.specs.Counts.{AtLeast, hosts_with}
use Rattle.nys_source.specs.Rules.{Rules}
use Rattle.nys_votes.specs.Seats.{seat_of}
use Rattle.nys_rules.specs.Events.{Plain}
use Rattle.nys_rules.specs.Exchanges.{IsHonestGuard}
use Rattle.nys_rules.specs.Happening.{HappenAll}
use Rattle.nys_rules.specs.Scope.{quorum_at}
use Rattle.nys_rules.specs.Spelling.{HasLog}
use Rattle.nys_rules.specs.View.{length_of, next_number}
use Rattle.nys_rules.specs.World.{Setting, World}

-- neighbours are hosts, and so both ways
pub record AreNeighbours {S : Type 0} (rules : Rules S) : Type 0 where
  pub hosts : (p h : ℕ) → rules.linked p h ≡ true → p < rules.hosts
  pub both : (p h : ℕ) → rules.linked p h ≡ true → rules.linked h p ≡ true

-- honest guard g of h holds number k of p as a head: its node is in the epoch with h live and its log at the base or
-- past it, k is the number that comes next there, and a head is recorded for the link
pub record HoldsHead {S : Type 0} (setting : Setting S) (w : World) (e h p k g : ℕ) : Type 0 where
  pub guard : IsHonestGuard setting e h g
  pub epoch : (w.nodes g).epoch ≡ e
  pub lives : (w.nodes g).retired h ≡ false
  pub reached : (w.nodes g).base h ≤ length_of (w.nodes g) h
  pub number : next_number setting.scope (w.nodes g) p h ≡ k
  pub recorded : (u : ℕ) × (seat_of ((w.nodes g).heads h) p ≡ Some u)

-- no honest node's log of h is longer than n, and one is as long
pub record IsLongestHonest {S : Type 0} (setting : Setting S) (w : World) (h n : ℕ) : Type 0 where
  pub logs : (g : ℕ) → HasLog setting w g h → length_of (w.nodes g) h ≤ n
  pub reached : (g : ℕ) × HasLog setting w g h × (length_of (w.nodes g) h ≡ n)

-- so many guards hold number k of its neighbour p as a head that each quorum has one of them, and the longest honest
-- log of h has n entries
pub record IsWidelyHeld {S : Type 0} (setting : Setting S) (w : World) (e h p k n : ℕ) : Type 0 where
  pub near : setting.scope.rules.linked p h ≡ true
  pub longest : IsLongestHonest setting w h n
  pub holders : AtLeast (hosts_with (setting.scope.guards e h) - quorum_at setting.scope e h + 1)
      (HoldsHead setting w e h p k)

-- the log of h is an honest guard's that is in the epoch, or what is decided of h while the Olympus is in it
abbrev pub IsLogOfEpoch : {S : Type 0} → Setting S → World → (e h : ℕ) → List Content → Type 0
IsLogOfEpoch setting w e h log =
    ((g : ℕ) × IsHonestGuard setting e h g × ((w.nodes g).epoch ≡ e) × (log ≡ (w.nodes g).logs h))
    ⊎ ((w.olympus.epoch ≡ e) × (log ≡ w.olympus.decided h))

-- no honest node's log of h has number k of p
abbrev pub HasNobodyTaken : {S : Type 0} → Setting S → World → (h p k : ℕ) → Type 0
HasNobodyTaken setting w h p k = (g slot : ℕ) (payload : List ℤ) → HasLog setting w g h
    → slice_get ((w.nodes g).logs h) slot ≡ Some (Message p k payload) → ⊥

-- number k of p stands in the log in a slot below the end; and not before slot n, where no log had it in the world
pub record IsTakenBefore {S : Type 0} (setting : Setting S) (w : World) (h p k n end : ℕ) (log : List Content) : Type 0 where
  pub slot : ℕ
  pub payload : List ℤ
  pub entry : slice_get log slot ≡ Some (Message p k payload)
  pub within : slot < end
  pub behind : HasNobodyTaken setting w h p k → n ≤ slot

-- after any events each log of the epoch has it among its first slots, as many as the longest honest log had and twice
-- the credit, once it is as long
abbrev pub TakesInCredit : {S : Type 0} → Setting S → World → Type 0
TakesInCredit setting w = (e h p k n : ℕ) → IsWidelyHeld setting w e h p k n → (events : List Plain) (next : World)
    → HappenAll setting w events (Ok next) → (log : List Content) → IsLogOfEpoch setting next e h log
    → n + 2 * setting.scope.credit e ≤ length log
    → IsTakenBefore setting w h p k n (n + 2 * setting.scope.credit e) log

-- The decision that must come: the log of a host, where all its honest guards told of it up to one slot.
use Rattle.std.specs.Prelude.{◌≡◌, ℕ, ◌<◌, ◌≤◌, true, false, Contains, Some, Ok}
use Rattle.nys_bytes.specs.declared.content.Content.{Content}
use Rattle.nys_votes.specs.Seats.{seat_of}
use Rattle.nys_rules.specs.declared.decision.Decision.TheVariants.{Decided}
use Rattle.nys_rules.specs.declared.notice.NoteKind.TheVariants as tell
use Rattle.nys_rules.specs.Events.Plain.{Decide}
use Rattle.nys_rules.specs.Exchanges.{IsHonestGuard}
use Rattle.nys_rules.specs.Forged.{HasMade}
use Rattle.nys_rules.specs.Happening.{Happens}
use Rattle.nys_rules.specs.Olympus.{OlympusView, Reported}
use Rattle.nys_rules.specs.Sending.{said_in}
use Rattle.nys_rules.specs.View.{length_of}
use Rattle.nys_rules.specs.World.{Setting, World}
use Rattle.nys_progress.specs.Statements.{deliver}

-- the Olympus accepted a Report of the guard for the slot of h, in its epoch, and keeps the first
abbrev pub HasReport : OlympusView → (h slot g : ℕ) → Type 0
HasReport o h slot g = (r : Reported) × Contains (o.reports h slot) r × (r.guard ≡ g)

-- the Olympus accepted a Frozen of the guard for h, in its epoch, and keeps the first
abbrev pub HasFrozen : OlympusView → (h g : ℕ) → Type 0
HasFrozen o h g = (slot : ℕ) × (seat_of (o.frozen h) g ≡ Some slot)

-- guard g ended the epoch of the Olympus with s entries of h and no Deliver for slot s, and the Olympus
-- accepted its Reports of the slots from the base to s and its Frozen
pub record HasEndedAt (w : World) (h s g : ℕ) : Type 0 where
  pub epoch : (w.nodes g).epoch ≡ w.olympus.epoch
  pub wedged : (w.nodes g).wedged ≡ true
  pub entries : length_of (w.nodes g) h ≡ s
  pub no_vote : (content : Content)
      → HasMade w.ledger g (said_in w.olympus.epoch (deliver h s content)) → ⊥
  pub reported : (slot : ℕ) → w.olympus.base h ≤ slot → slot < s → HasReport w.olympus h slot g
  pub frozen : HasFrozen w.olympus h g

-- the epoch of the Olympus ends, h is neither decided nor retired, s isn't below the base of h, and every
-- honest guard of h has ended the epoch there
pub record IsDueAt {S : Type 0} (setting : Setting S) (w : World) (h s : ℕ) : Type 0 where
  pub host : h < setting.scope.rules.hosts
  pub ending : w.olympus.wedged ≡ true
  pub undecided : w.olympus.decided_now h ≡ false
  pub kept : w.olympus.retired h ≡ false
  pub above : w.olympus.base h ≤ s
  pub guards : (g : ℕ) → IsHonestGuard setting w.olympus.epoch h g → HasEndedAt w h s g

-- then the Olympus that is told to decide the log of h answers that it is decided at s
abbrev pub DecidesWhereDue : {S : Type 0} → Setting S → World → Type 0
DecidesWhereDue setting w = (h s : ℕ) → IsDueAt setting w h s → (next : World)
    → Happens setting w (Decide h) (Ok next)
    → Contains next.notes (record { event = w.events; kind = tell.Decide h (Decided s) })

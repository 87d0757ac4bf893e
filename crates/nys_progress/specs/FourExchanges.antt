-- The four exchanges that log a content which its host has offered.
use Rattle.std.specs.Prelude.{◌≡◌, ◌≢◌, ℕ, ◌<◌, ◌≤◌, ◌⊎◌, true, List, All, Contains, slice_get, Some, Ok}
use Rattle.nys_bytes.specs.declared.content.Content.{Content}
use Rattle.nys_stmt.specs.Records.{IsRecord}
use Rattle.nys_stmt.specs.declared.statement.Statement.{Statement}
use Rattle.nys_stmt.specs.declared.tags.Tags.{Tags}
use Rattle.nys_rules.specs.Dropping.{verifies}
use Rattle.nys_rules.specs.Events.{Plain}
use Rattle.nys_rules.specs.Exchanges.{exchanges_in, IsHonestGuard, IsOrderRecord, IsUnspoiled}
use Rattle.nys_rules.specs.Happening.{HappenAll}
use Rattle.nys_rules.specs.Packets.{Given, Sent}
use Rattle.nys_rules.specs.World.{is_honest, Setting, World}
use Rattle.nys_laws.specs.Own.{HasSaid}
use Rattle.nys_laws.specs.Own.Stage.{Offered}
use Rattle.nys_progress.specs.Carried.{IsCarried}
use Rattle.nys_progress.specs.Ordered.{IsOffered}
use Rattle.nys_progress.specs.Relay.{HasNoWedge}
use Rattle.nys_progress.specs.Scheduled.{IsScheduled}

-- somebody sent the bytes, or an event gave them
abbrev pub AreThere : List Sent → List Given → List ℕ → Type 0
AreThere pool injected frame =
    ((p : Sent) × Contains pool p × (p.frame ≡ frame)) ⊎ ((x : Given) × Contains injected x × (x.frame ≡ frame))

-- where the maker of the entry is honest, each other guard of h finds its right tag there
abbrev pub IsWholeEntry : {S : Type 0} → Setting S → (e h : ℕ) → Statement → Tags → Type 0
IsWholeEntry setting e h statement tags = is_honest setting tags.maker ≡ true
    → (g : ℕ) → setting.scope.guards e h g ≡ true → g ≢ tags.maker → verifies setting.scope g statement tags ≡ true

-- no record of an Order for slot s of h in the epoch, sent by anybody or given by an event, has an honest maker's
-- entry in which another guard's tag is missing or wrong; and such records are well formed, as each is that is read
-- from bytes. So it is where nobody makes records of others' tags but by passing on whole entries
pub record HasWholeOrders {S : Type 0} (setting : Setting S) (w : World) (e h s : ℕ) : Type 0 where
  pub well : (frame : List ℕ) → AreThere w.pool w.injected frame → (is : IsOrderRecord frame e h s) → IsRecord is.r
  pub whole : (frame : List ℕ) → AreThere w.pool w.injected frame → (is : IsOrderRecord frame e h s)
      → All (IsWholeEntry setting e h is.r.statement) is.r.makers

-- after any events without a wedge among which are four exchanges each honest guard of h has the content in the slot,
-- where the orders for it are whole at the end
abbrev pub LogsInFour : {S : Type 0} → Setting S → World → Type 0
LogsInFour setting w = (e h s : ℕ) (content : Content) → IsCarried content → IsOffered setting w e h s content
    → (events : List Plain) (next : World) → HappenAll setting w events (Ok next) → HasNoWedge events
    → 4 ≤ exchanges_in events → HasWholeOrders setting next e h s → (g : ℕ) → IsHonestGuard setting e h g
    → slice_get ((next.nodes g).logs h) s ≡ Some content

-- the orders are whole for each unspoiled slot of an honest host in which that offered a content that can be read
abbrev pub KeepsOrdersWhole : {S : Type 0} → Setting S → World → Type 0
KeepsOrdersWhole setting w = (e h s : ℕ) (content : Content) → h < setting.scope.rules.hosts → is_honest setting h ≡ true
    → IsCarried content → HasSaid w.ledger h Offered e h s content → IsUnspoiled w e h s → HasWholeOrders setting w e h s

-- so it is after such events of a schedule where the slot is unspoiled at the end, whatever else liars did
abbrev pub LogsUnspoiled : {S : Type 0} → Setting S → World → Type 0
LogsUnspoiled setting w = (e h s : ℕ) (content : Content) → IsCarried content → IsOffered setting w e h s content
    → (events : List Plain) (next : World) → All (IsScheduled setting) events → HappenAll setting w events (Ok next)
    → HasNoWedge events → 4 ≤ exchanges_in events → IsUnspoiled next e h s → (g : ℕ) → IsHonestGuard setting e h g
    → slice_get ((next.nodes g).logs h) s ≡ Some content

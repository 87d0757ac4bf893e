-- The first of the exchanges that log an offer: it has each honest guard order it.
use Rattle.std.specs.Prelude.{◌≡◌, ℕ, ◌<◌, ◌≤◌, ◌⊎◌, true, List, Ok}
use Rattle.nys_bytes.specs.declared.content.Content.{Content}
use Rattle.nys_rules.specs.Events.{Plain}
use Rattle.nys_rules.specs.Exchanges.{exchanges_in, IsHonestGuard, IsLevel}
use Rattle.nys_rules.specs.Happening.{HappenAll}
use Rattle.nys_rules.specs.Heads.{is_allowed, is_attested_next}
use Rattle.nys_rules.specs.View.{length_of}
use Rattle.nys_rules.specs.World.{Setting, World}
use Rattle.nys_laws.specs.Own.{HasSaid}
use Rattle.nys_laws.specs.Own.Stage.{Offered, Ordered}
use Rattle.nys_progress.specs.Carried.{IsCarried}
use Rattle.nys_progress.specs.Relay.{HasNoWedge}

-- slot s of h is level in the epoch, h offered the content there, and at each honest guard it is an input or attested
-- and numbered next, and the credit rule allows it
pub record IsOffered {S : Type 0} (setting : Setting S) (w : World) (e h s : ℕ) (content : Content) : Type 0 where
  pub level : IsLevel setting w e h s
  pub offered : HasSaid w.ledger h Offered e h s content
  pub next : (g : ℕ) → IsHonestGuard setting e h g → is_attested_next setting.scope (w.nodes g) h content ≡ true
  pub allowed : (g : ℕ) → IsHonestGuard setting e h g → is_allowed setting.scope (w.nodes g) h content ≡ true
  pub credit : 1 ≤ setting.scope.credit e

-- after any events without a wedge among which is an exchange each honest guard of h has ordered the content in the
-- slot, or its log is past it
abbrev pub OrdersInOne : {S : Type 0} → Setting S → World → Type 0
OrdersInOne setting w = (e h s : ℕ) (content : Content) → IsCarried content → IsOffered setting w e h s content
    → (events : List Plain) (next : World) → HappenAll setting w events (Ok next) → HasNoWedge events
    → 1 ≤ exchanges_in events → (g : ℕ) → IsHonestGuard setting e h g
    → (s < length_of (next.nodes g) h) ⊎ HasSaid next.ledger g Ordered e h s content

-- Relay: what one honest guard of a host has logged by votes, two exchanges put into the log of each.
use Rattle.std.specs.Prelude.{◌≡◌, ℕ, ◌<◌, ◌≤◌, false, List, Contains, slice_get, Some, Ok}
use Rattle.nys_bytes.specs.declared.content.Content.{Content}
use Rattle.nys_rules.specs.Events.{Plain}
use Rattle.nys_rules.specs.Events.Plain.{Wedge}
use Rattle.nys_rules.specs.Exchanges.{exchanges_in, IsHonestGuard, NotWedged}
use Rattle.nys_rules.specs.Happening.{HappenAll}
use Rattle.nys_rules.specs.View.{length_of}
use Rattle.nys_rules.specs.World.{Setting, World}
use Rattle.nys_progress.specs.Carried.{IsCarried}

-- no event among these tells the Olympus to end its epoch
abbrev pub HasNoWedge : List Plain → Type 0
HasNoWedge events = Contains events Wedge → ⊥

-- the node of g is in the epoch with h live, isn't wedged, and has at least s entries of h
pub record IsAtSlot (w : World) (e h s g : ℕ) : Type 0 where
  pub epoch : (w.nodes g).epoch ≡ e
  pub lives : (w.nodes g).retired h ≡ false
  pub active : (w.nodes g).wedged ≡ false
  pub entries : s ≤ length_of (w.nodes g) h

-- guard g has logged the content in slot s of h by votes: the slot isn't below the base of the epoch that its
-- node is in, since an epoch begins with no entry from its base on
pub record HasLogged {S : Type 0} (setting : Setting S) (w : World) (e h s : ℕ) (content : Content) (g : ℕ) : Type 0 where
  pub guard : IsHonestGuard setting e h g
  pub above : (w.nodes g).base h ≤ s
  pub entry : slice_get ((w.nodes g).logs h) s ≡ Some content

-- one honest guard of h has logged the content in slot s by votes of the epoch; all of them are in the epoch at the
-- slot or past it, and the epoch isn't ending
pub record IsRelayable {S : Type 0} (setting : Setting S) (w : World) (e h s : ℕ) (content : Content) : Type 0 where
  pub host : h < setting.scope.rules.hosts
  pub guards : (g : ℕ) → IsHonestGuard setting e h g → IsAtSlot w e h s g
  pub logged : (g : ℕ) × HasLogged setting w e h s content g
  pub goes_on : NotWedged w e

-- after any events without a wedge among which are two exchanges each honest guard of h has the content in the slot
abbrev pub RelaysInTwo : {S : Type 0} → Setting S → World → Type 0
RelaysInTwo setting w = (e h s : ℕ) (content : Content) → IsCarried content → IsRelayable setting w e h s content
    → (events : List Plain) (next : World) → HappenAll setting w events (Ok next) → HasNoWedge events
    → 2 ≤ exchanges_in events → (g : ℕ) → IsHonestGuard setting e h g
    → slice_get ((next.nodes g).logs h) s ≡ Some content

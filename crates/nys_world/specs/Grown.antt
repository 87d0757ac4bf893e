-- What is asked of the slots that a call of a node logged.
use Rattle.std.specs.Prelude.{◌≡◌, ℕ, ◌<◌, ◌≤◌, ◌⊎◌, Bool, if◌then◌else◌, List, All, slice_get, Option, Some, None}
use Rattle.nys_hosts.specs.declared.limits.TheConstants.{MAX_HOSTS}
use Rattle.nys_bytes.specs.declared.content.Content.{Content}
use Rattle.nys_rules.specs.Same.{same_slot}
use Rattle.nys_rules.specs.View.{View}
use Rattle.nys_stmt.specs.declared.statement.Body.{Body}
use Rattle.nys_stmt.specs.declared.statement.Body.TheVariants.{Filled, Attest, Ask, Wedge, Frozen, Open}
use Rattle.nys_stmt.specs.declared.statement.FilledKind.{FilledKind}
use Rattle.nys_stmt.specs.declared.statement.FilledKind.TheVariants.{Offer, Order, Deliver, Report, Inherit}
use Rattle.nys_stmt.specs.declared.statement.Statement.{Statement}

-- each slot is one of a host's log
abbrev pub AreOfHosts : List (ℕ × ℕ) → Type 0
AreOfHosts slots = All (λ (x : ℕ × ℕ). x.0 < MAX_HOSTS) slots

-- the content that a statement of this kind hands over, where it is of the slot that is asked for
abbrev pub inherited_as : FilledKind → (here : Bool) → Content → Option Content
inherited_as Offer here content = None
inherited_as Order here content = None
inherited_as Deliver here content = None
inherited_as Report here content = None
inherited_as Inherit here content = if here then Some content else None

-- the content that a statement hands over for the slot of h
abbrev pub inherited_by : Body → (h slot : ℕ) → Option Content
inherited_by (Filled kind g at content) h slot = inherited_as kind (same_slot g at h slot) content
inherited_by (Attest p g k payload) h slot = None
inherited_by (Ask g at) h slot = None
inherited_by Wedge h slot = None
inherited_by (Frozen g at) h slot = None
inherited_by (Open lengths) h slot = None

-- the same of the statement that a call took, if it took one
abbrev pub inherited : Option Statement → (h slot : ℕ) → Option Content
inherited None h slot = None
inherited (Some s) h slot = inherited_by s.body h slot

-- the entry of a slot that a call logged is at hand: the node keeps it, or the statement that the call took hands it over
abbrev pub IsAtHand : View → Option Statement → ℕ × ℕ → Type 0
IsAtHand v told x = (v.kept_from x.0 ≤ x.1) ⊎ (inherited told x.0 x.1 ≡ slice_get (v.logs x.0) x.1)

-- so it is of each slot
abbrev pub AreAtHand : View → Option Statement → List (ℕ × ℕ) → Type 0
AreAtHand v told slots = All (IsAtHand v told) slots

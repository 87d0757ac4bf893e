-- The grounds on which a node takes a rule, and tells the Olympus what it knows, by what the ledger has.
use Rattle.std.specs.Prelude.{◌≡◌, ℕ, ◌+◌, ◌<◌, ◌≤◌, ◌⊎◌, All, false, true, List, slice_get, Some}
use Rattle.nys_hosts.specs.declared.limits.TheConstants.{MAX_SLOTS}
use Rattle.nys_bytes.specs.declared.content.Content.{Content}
use Rattle.nys_bytes.specs.declared.content.Content.TheVariants.{External, Message}
use Rattle.nys_hosts.specs.Counts.{AtLeast}
use Rattle.nys_agreement.specs.Alone.{Fits}
use Rattle.nys_agreement.specs.Events.{IsCandidate}
use Rattle.nys_stmt.specs.declared.statement.Body.{Body}
use Rattle.nys_stmt.specs.declared.statement.Body.TheVariants as body
use Rattle.nys_stmt.specs.declared.statement.FilledKind.TheVariants as kind
use Rattle.nys_stmt.specs.declared.statement.Statement.{Statement}
use Rattle.nys_rules.specs.declared.rule.Rule.{Rule}
use Rattle.nys_rules.specs.declared.rule.Rule.TheVariants.{Offer, Order, Certificate, Deliver, Log, Attest}
use Rattle.nys_rules.specs.Ending.{reporting}
use Rattle.nys_rules.specs.Forged.{Entry}
use Rattle.nys_rules.specs.Rules.{Enabled}
use Rattle.nys_rules.specs.Scope.{Scope}
use Rattle.nys_rules.specs.Sending.{said_in}
use Rattle.nys_rules.specs.View.{length_of, sent_to, View}
use Rattle.nys_rules.specs.World.{Setting}
use Rattle.nys_laws.specs.Own.{HasSaid, Stage}
use Rattle.nys_laws.specs.Own.Stage.{Offered, Ordered, Delivered}
use Rattle.nys_laws.specs.Rests.{IsSound}
use Rattle.nys_laws.specs.Vouched.{GuardsLink, IsVouched, IsVouchedByBoth, QuorumVouches}

-- the node guards h in its epoch, and h isn't retired
pub record IsLiveAt {S : Type 0} (scope : Scope S) (v : View) (h : ℕ) : Type 0 where
  pub host : h < scope.rules.hosts
  pub guard : scope.guards v.epoch h v.me ≡ true
  pub lives : v.retired h ≡ false

-- the slot behind the log of h is open at the node
pub record IsOpenAt {S : Type 0} (scope : Scope S) (v : View) (h : ℕ) : Type 0 where
  pub live : IsLiveAt scope v h
  pub active : v.wedged ≡ false
  pub reached : v.base h ≤ length_of v h
  pub room : length_of v h < MAX_SLOTS

-- party g said nothing at the stage for the open slot of h, in the epoch of the node
abbrev pub HasNotSaid : List Entry → (g : ℕ) → Stage → View → (h : ℕ) → Type 0
HasNotSaid ledger g stage v h =
    (content : Content) → HasSaid ledger g stage v.epoch h (length_of v h) content → ⊥

-- h may take the content next: it fits the log, and more guards of both attest a message than may lie
abbrev pub IsBacked : {S : Type 0} → Setting S → List Entry → View → (h : ℕ) → Content → Type 0
IsBacked setting ledger v h (External payload) = Unit {0}
IsBacked setting ledger v h (Message p k payload) =
    Fits setting.scope.rules h (v.logs h) (Message p k payload)
    × AtLeast (setting.scope.t v.epoch p + 1) (IsVouchedByBoth setting ledger v.epoch p h k payload)

-- what stands behind a rule that the node of g takes
abbrev pub HasGrounds : {S : Type 0} → Setting S → (g : ℕ) → List Entry → View → Rule → Type 0
-- the host offers once, and an input only where it is the oldest that waits
HasGrounds setting g ledger v (Offer h content) =
    IsOpenAt setting.scope v h × (g ≡ h) × HasNotSaid ledger g Offered v h
    × IsCandidate v.waiting content
-- a guard orders once, what the host offered where it is no liar, and what the host may take next
HasGrounds setting g ledger v (Order h content) =
    IsOpenAt setting.scope v h × HasNotSaid ledger g Ordered v h
    × (setting.liars h ≡ false → HasSaid ledger h Offered v.epoch h (length_of v h) content)
    × IsBacked setting ledger v h content
HasGrounds setting g ledger v (Certificate h content) = Unit {0}
-- a guard votes once, for what a quorum ordered or more guards voted for than may lie
HasGrounds setting g ledger v (Deliver h content) =
    IsOpenAt setting.scope v h × HasNotSaid ledger g Delivered v h
    × (QuorumVouches setting ledger v.epoch h (body.Filled kind.Order h (length_of v h) content)
    ⊎ AtLeast (setting.scope.t v.epoch h + 1)
    (IsVouched setting ledger v.epoch h (body.Filled kind.Deliver h (length_of v h) content)))
-- a guard logs what a quorum voted for, where it fits
HasGrounds setting g ledger v (Log h content) =
    IsOpenAt setting.scope v h
    × QuorumVouches setting ledger v.epoch h (body.Filled kind.Deliver h (length_of v h) content)
    × Fits setting.scope.rules h (v.logs h) content
-- an active guard of both attests what its own log of the sender sent
HasGrounds setting g ledger v (Attest p h k payload) =
    (v.wedged ≡ false) × GuardsLink setting.scope v.epoch p h g
    × (slice_get (sent_to setting.scope v p h) k ≡ Some payload)

-- what the node of g may tell the Olympus of a host that is live at it: an entry of its log from the
-- base on, or its Deliver in such a slot; and the slot behind all its Delivers
abbrev pub IsTestimony : {S : Type 0} → Setting S → (g : ℕ) → List Entry → View → Body → Type 0
IsTestimony setting g ledger v (body.Filled kind.Report h slot content) =
    IsLiveAt setting.scope v h × (v.base h ≤ slot)
    × ((slice_get (v.logs h) slot ≡ Some content) ⊎ HasSaid ledger g Delivered v.epoch h slot content)
IsTestimony setting g ledger v (body.Frozen h slot) =
    IsLiveAt setting.scope v h × (slot ≡ v.voted_to h)
    × ((before : ℕ) (content : Content) → HasSaid ledger g Delivered v.epoch h before content
    → before < slot)
IsTestimony setting g ledger v _ = ⊥

-- the statement is of the node's epoch, and it may tell so
pub record IsToldBy {S : Type 0} (setting : Setting S) (g : ℕ) (ledger : List Entry) (v : View)
    (s : Statement) : Type 0 where
  pub said : Body
  pub statement_is : s ≡ said_in v.epoch said
  pub may : IsTestimony setting g ledger v said

-- a sound node takes each rule that is enabled on its grounds
abbrev pub TakeOnGrounds : {S : Type 0} → Setting S → Type 0
TakeOnGrounds setting = (g : ℕ) (ledger : List Entry) (v : View) (rule : Rule)
    → IsSound setting g ledger v
    → Enabled setting.scope v rule → HasGrounds setting g ledger v rule

-- all that a sound node tells where its epoch ends it may tell
abbrev pub TellOnGrounds : {S : Type 0} → Setting S → Type 0
TellOnGrounds setting = (g : ℕ) (ledger : List Entry) (v : View) → IsSound setting g ledger v
    → All (IsToldBy setting g ledger v) (reporting setting.scope v).made

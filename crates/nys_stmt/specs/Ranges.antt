-- Which numbers a statement may have, and what its types keep by themselves.
use Rattle.std.specs.Prelude.{ℕ, ℤ, ◌≤◌, List, length, All, FitsSigned}
use Rattle.std.specs.Int.{w64}
use Rattle.nys_bytes.specs.declared.content.Content.{Content}
use Rattle.nys_bytes.specs.declared.content.Content.TheVariants.{External, Message}
use Rattle.nys_bytes.specs.declared.payload.TheConstants.{MAX_NUMBERS}
use Rattle.nys_stmt.specs.declared.limits.TheConstants.{MAX_EPOCH, MAX_HOST, MAX_LENGTH, MAX_NUMBER, MAX_SLOT}
use Rattle.nys_stmt.specs.declared.statement.Body.{Body}
use Rattle.nys_stmt.specs.declared.statement.Body.TheVariants.{Filled, Attest, Ask, Wedge, Frozen, Open}
use Rattle.nys_stmt.specs.declared.statement.Statement.{Statement}
use Rattle.nys_stmt.specs.Lists.{AreLengths}

-- a host, and a slot of its log
abbrev pub IsSlot : ℕ → ℕ → Type 0
IsSlot h slot = (h ≤ MAX_HOST) × (slot ≤ MAX_SLOT)

-- the sender of a message is a host, and its number fits two bytes
abbrev pub IsContentInRange : Content → Type 0
IsContentInRange (External payload) = Unit {0}
IsContentInRange (Message p k payload) = (p ≤ MAX_HOST) × (k ≤ MAX_NUMBER)

-- a slot of a host, and a content in range
abbrev pub IsFilled : ℕ → ℕ → Content → Type 0
IsFilled h slot content = (h ≤ MAX_HOST) × (slot ≤ MAX_SLOT) × IsContentInRange content

-- the numbers of a body are within the ranges of its kind
abbrev pub IsBodyInRange : Body → Type 0
IsBodyInRange (Filled kind h slot content) = IsFilled h slot content
IsBodyInRange (Attest p h k payload) = (p ≤ MAX_HOST) × (h ≤ MAX_HOST) × (k ≤ MAX_NUMBER)
IsBodyInRange (Ask h slot) = IsSlot h slot
IsBodyInRange Wedge = Unit {0}
IsBodyInRange (Frozen h slot) = (h ≤ MAX_HOST) × (slot ≤ MAX_LENGTH)
IsBodyInRange (Open lengths) = 1 ≤ length lengths

-- each number of a statement is within its range
pub record IsInRange (statement : Statement) : Type 0 where
  pub epoch : statement.epoch ≤ MAX_EPOCH
  pub body : IsBodyInRange statement.body

-- one number or more of 64 bits, up to the most, as each payload is
pub record IsPayload (numbers : List ℤ) : Type 0 where
  pub some : 1 ≤ length numbers
  pub few : length numbers ≤ MAX_NUMBERS
  pub fit : All (λ z. FitsSigned w64 z) numbers

-- the payload of a content is one
abbrev pub IsContentSound : Content → Type 0
IsContentSound (External payload) = IsPayload payload
IsContentSound (Message p k payload) = IsPayload payload

-- what the types of a body's parts keep: payloads and lengths
abbrev pub IsBodySound : Body → Type 0
IsBodySound (Filled kind h slot content) = IsContentSound content
IsBodySound (Attest p h k payload) = IsPayload payload
IsBodySound (Ask h slot) = Unit {0}
IsBodySound Wedge = Unit {0}
IsBodySound (Frozen h slot) = Unit {0}
IsBodySound (Open lengths) = AreLengths lengths

-- what has a spelling: a statement in range whose parts are what their types keep
pub record IsStatement (statement : Statement) : Type 0 where
  pub range : IsInRange statement
  pub sound : IsBodySound statement.body

-- Statements that have all in common but their payloads.
use Rattle.std.specs.Prelude.{◌≡◌, ℤ, List, option_map}
use Rattle.nys_bytes.specs.declared.content.Content.{Content}
use Rattle.nys_bytes.specs.declared.content.Content.TheVariants.{External, Message}
use Rattle.nys_stmt.specs.declared.statement.Body.{Body}
use Rattle.nys_stmt.specs.declared.statement.Body.TheVariants.{Filled, Attest, Ask, Wedge, Frozen, Open}
use Rattle.nys_stmt.specs.declared.statement.Statement.{Statement}
use Rattle.nys_stmt.specs.Records.{payload_in}
use Rattle.nys_stmt.specs.Spelling.{digest}

-- a content with this payload in place of its own
abbrev pub content_with : List ℤ → Content → Content
content_with payload (External own) = External payload
content_with payload (Message p k own) = Message p k payload

-- a body with this payload in place of its own, where its kind has one
abbrev pub with_payload : List ℤ → Body → Body
with_payload payload (Filled kind h slot content) = Filled kind h slot (content_with payload content)
with_payload payload (Attest p h k own) = Attest p h k payload
with_payload payload (Ask h slot) = Ask h slot
with_payload payload Wedge = Wedge
with_payload payload (Frozen h slot) = Frozen h slot
with_payload payload (Open lengths) = Open lengths

-- two statements that differ in their payloads alone, and these have one digest
pub record AreAlike (a b : Statement) : Type 0 where
  pub epoch : a.epoch ≡ b.epoch
  pub apart : (payload : List ℤ) → with_payload payload a.body ≡ with_payload payload b.body
  pub digests : option_map digest (payload_in a.body) ≡ option_map digest (payload_in b.body)

-- two statements that are alike and not the same; no such two are known
pub record DoClash (a b : Statement) : Type 0 where
  pub alike : AreAlike a b
  pub differ : a ≡ b → ⊥

-- The bytes of records, and which records have some.
use Rattle.std.specs.Prelude.{◌≡◌, ℕ, ℤ, ◌≤◌, ◌<◌, List, [], ◌∷◌, ◌++◌, length, All, Option, Some, None}
use Rattle.std.specs.List.{flat_map}
use Rattle.nys_mac.specs.declared.authenticating.TheConstants.{TAG_LEN}
use Rattle.nys_bytes.specs.declared.content.Content.{Content}
use Rattle.nys_bytes.specs.declared.content.Content.TheVariants.{External, Message}
use Rattle.nys_stmt.specs.declared.statement.Body.{Body}
use Rattle.nys_stmt.specs.declared.statement.Body.TheVariants.{Filled, Attest, Ask, Wedge, Frozen, Open}
use Rattle.nys_stmt.specs.declared.tags.Tags.{Tags}
use Rattle.nys_stmt.specs.declared.records.Record.{Record}
use Rattle.nys_stmt.specs.Lists.{AreTags}
use Rattle.nys_stmt.specs.Makers.{AreMakers}
use Rattle.nys_stmt.specs.Ranges.{IsInRange, IsStatement}
use Rattle.nys_stmt.specs.Spelling.{payload_bytes, spelling}

-- a receiver and its tag
abbrev pub tag_bytes : ℕ × List ℕ → List ℕ
tag_bytes tag = tag.0 ∷ tag.1

-- a maker, how many tags it has, and the tags
unfoldable pub maker_bytes : Tags → List ℕ
maker_bytes tags = tags.maker ∷ length tags.tags ∷ flat_map tag_bytes tags.tags

-- how many makers there are, and the makers
unfoldable pub makers_bytes : List Tags → List ℕ
makers_bytes makers = length makers ∷ flat_map maker_bytes makers

-- the payload of a content
abbrev pub payload_within : Content → List ℤ
payload_within (External payload) = payload
payload_within (Message p k payload) = payload

-- the payload of a body, where its kind has one
abbrev pub payload_in : Body → Option (List ℤ)
payload_in (Filled kind h slot content) = Some (payload_within content)
payload_in (Attest p h k payload) = Some payload
payload_in (Ask h slot) = None
payload_in Wedge = None
payload_in (Frozen h slot) = None
payload_in (Open lengths) = None

-- the bytes of a payload, where there is one
abbrev pub carried_bytes : Option (List ℤ) → List ℕ
carried_bytes (Some payload) = payload_bytes payload
carried_bytes None = []

-- the bytes of a record: the magic 4e 59, the version 2, the statement, the payload that its digest stands for,
-- and the makers
unfoldable pub record_spelling : Record → List ℕ
record_spelling r =
    0x4e ∷ 0x59 ∷ 0x02 ∷ spelling r.statement ++ carried_bytes (payload_in r.statement.body) ++ makers_bytes r.makers

-- what the types of a record's parts don't keep: ranges, one maker or more, one tag a maker or more
pub record IsWhole (r : Record) : Type 0 where
  pub range : IsInRange r.statement
  pub makers : 1 ≤ length r.makers
  pub tags : All (λ t. 1 ≤ length t.tags) r.makers

-- a tag of `TAG_LEN` bytes
pub record IsTag (tag : ℕ × List ℕ) : Type 0 where
  pub size : length tag.1 ≡ TAG_LEN
  pub bytes : All (λ b. b < 256) tag.1

-- a maker with one tag or more
pub record IsMaker (tags : Tags) : Type 0 where
  pub some : 1 ≤ length tags.tags
  pub rule : AreTags tags.tags
  pub each : All IsTag tags.tags

-- a well-formed record: what has a spelling
pub record IsRecord (r : Record) : Type 0 where
  pub statement : IsStatement r.statement
  pub some : 1 ≤ length r.makers
  pub rule : AreMakers r.makers
  pub each : All IsMaker r.makers

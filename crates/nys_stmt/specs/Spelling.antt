-- The bytes of statements, a case for each kind. Numbers have the greatest byte first. A payload stands in them
-- by its digest: it is spelled once beside the statement (`Records`).
use Rattle.std.specs.Prelude.{ℕ, ℤ, List, [], ◌∷◌, ◌++◌, Option, None, Some, length}
use Rattle.std.specs.Int.{w64, cast_unsigned}
use Rattle.std.specs.List.{flat_map}
use Rattle.byteorder.specs.Endian.{big_bytes}
use Rattle.sha2.specs.Sha256.{sha256}
use Rattle.nys_bytes.specs.declared.content.Content.{Content}
use Rattle.nys_bytes.specs.declared.content.Content.TheVariants.{External, Message}
use Rattle.nys_stmt.specs.declared.statement.Body.{Body}
use Rattle.nys_stmt.specs.declared.statement.Body.TheVariants.{Filled, Attest, Ask, Wedge, Frozen, Open}
use Rattle.nys_stmt.specs.declared.statement.FilledKind.{FilledKind}
use Rattle.nys_stmt.specs.declared.statement.FilledKind.TheVariants.{Offer, Order, Deliver, Report, Inherit}
use Rattle.nys_stmt.specs.declared.statement.Statement.{Statement}

-- a signed number: eight bytes, in two's complement
unfoldable pub number_bytes : ℤ → List ℕ
number_bytes number = big_bytes 8 (cast_unsigned w64 number)

-- a payload: how many numbers it has, and the numbers
unfoldable pub payload_bytes : List ℤ → List ℕ
payload_bytes payload = big_bytes 2 (length payload) ++ flat_map number_bytes payload

-- what stands for a payload in the bytes of a statement: the SHA-256 of its own bytes (FIPS 180-4)
unfoldable pub digest : List ℤ → List ℕ
digest payload = sha256 (payload_bytes payload)

-- a content: 0 and the digest of an input, or 1 and sender, number and digest of a message
unfoldable pub content_bytes : Content → List ℕ
content_bytes (External payload) = 0 ∷ digest payload
content_bytes (Message p k payload) = 1 ∷ p ∷ big_bytes 2 k ++ digest payload

-- the length of a host's log, or ffff for a retired host
abbrev pub length_bytes : Option ℕ → List ℕ
length_bytes (Some n) = big_bytes 2 n
length_bytes None = big_bytes 2 0xffff

-- a host and a slot
abbrev pub slot_bytes : ℕ → ℕ → List ℕ
slot_bytes h slot = h ∷ big_bytes 2 slot

-- the byte of what is said of a content
abbrev pub filled_byte : FilledKind → ℕ
filled_byte Offer = 0x01
filled_byte Order = 0x02
filled_byte Deliver = 0x03
filled_byte Report = 0x07
filled_byte Inherit = 0x0a

-- the byte of a kind
abbrev pub kind_byte : Body → ℕ
kind_byte (Filled kind h slot content) = filled_byte kind
kind_byte (Attest p h k payload) = 0x04
kind_byte (Ask h slot) = 0x05
kind_byte Wedge = 0x06
kind_byte (Frozen h slot) = 0x08
kind_byte (Open lengths) = 0x09

-- what stands behind the kind and the epoch
unfoldable pub body_bytes : Body → List ℕ
body_bytes (Filled kind h slot content) = slot_bytes h slot ++ content_bytes content
body_bytes (Attest p h k payload) = p ∷ h ∷ big_bytes 2 k ++ digest payload
body_bytes (Ask h slot) = slot_bytes h slot
body_bytes Wedge = []
body_bytes (Frozen h slot) = slot_bytes h slot
body_bytes (Open lengths) = length lengths ∷ flat_map length_bytes lengths

-- the bytes of a statement: its kind, its epoch, and what its kind has
unfoldable pub spelling : Statement → List ℕ
spelling statement = kind_byte statement.body ∷ big_bytes 2 statement.epoch ++ body_bytes statement.body

-- The bytes of statements for any bytes of their payloads, and what these are in a record.
use Rattle.std.proofs.Common.{◌≡◌, ℕ, ℤ, List, [], ◌∷◌, ◌++◌, length, refl, sym, ap, ◌∙◌, append_assoc}
use Rattle.std.specs.List.{flat_map}
use Rattle.byteorder.specs.Endian.{big_bytes}
use Rattle.std.proofs.lemmas.List.{append-nil}
use Rattle.nys_bytes.specs.declared.content.Content.{Content}
use Rattle.nys_bytes.specs.declared.content.Content.TheVariants.{External, Message}
use Rattle.nys_stmt.specs.declared.statement.Body.{Body}
use Rattle.nys_stmt.specs.declared.statement.Body.TheVariants.{Filled, Attest, Ask, Wedge, Frozen, Open}
use Rattle.nys_stmt.specs.declared.statement.Statement.{Statement}
use Rattle.nys_stmt.specs.Lists.{AreLengths}
use Rattle.nys_stmt.specs.Ranges.{IsInRange, IsPayload, IsContentSound, IsBodySound}
use Rattle.nys_stmt.specs.Records.{payload_within, payload_in, carried_bytes}
use Rattle.nys_stmt.specs.Spelling.{payload_bytes, digest, content_bytes, length_bytes, slot_bytes, kind_byte, body_bytes, spelling}

-- a content, its payload as these bytes
abbrev pub content_text : (List ℤ → List ℕ) → Content → List ℕ
content_text text (External payload) = 0 ∷ text payload
content_text text (Message p k payload) = 1 ∷ p ∷ big_bytes 2 k ++ text payload

-- what stands behind the kind and the epoch
abbrev pub body_text : (List ℤ → List ℕ) → Body → List ℕ
body_text text (Filled kind h slot content) = slot_bytes h slot ++ content_text text content
body_text text (Attest p h k payload) = p ∷ h ∷ big_bytes 2 k ++ text payload
body_text text (Ask h slot) = slot_bytes h slot
body_text text Wedge = []
body_text text (Frozen h slot) = slot_bytes h slot
body_text text (Open lengths) = length lengths ∷ flat_map length_bytes lengths

-- a statement
unfoldable pub statement_text : (List ℤ → List ℕ) → Statement → List ℕ
statement_text text s = kind_byte s.body ∷ big_bytes 2 s.epoch ++ body_text text s.body

-- the payload of a content is such a one
abbrev pub FitsContent : (List ℤ → Type 0) → Content → Type 0
FitsContent Fits (External payload) = Fits payload
FitsContent Fits (Message p k payload) = Fits payload

-- the payload of a body is such a one, and lengths are what their type keeps
abbrev pub FitsBody : (List ℤ → Type 0) → Body → Type 0
FitsBody Fits (Filled kind h slot content) = FitsContent Fits content
FitsBody Fits (Attest p h k payload) = Fits payload
FitsBody Fits (Ask h slot) = Unit {0}
FitsBody Fits Wedge = Unit {0}
FitsBody Fits (Frozen h slot) = Unit {0}
FitsBody Fits (Open lengths) = AreLengths lengths

-- a statement in range with such a payload
pub record FitsStatement (Fits : List ℤ → Type 0) (s : Statement) : Type 0 where
  pub range : IsInRange s
  pub parts : FitsBody Fits s.body

-- ---- in a record, where the payload stands behind its digest

-- a payload behind its digest
abbrev pub carried_text : List ℤ → List ℕ
carried_text payload = digest payload ++ payload_bytes payload

-- a content, its payload at the end
content_carried : (c : Content) → content_text carried_text c ≡ content_bytes c ++ payload_bytes (payload_within c)
unfolding content_bytes
content_carried (External payload) = refl
content_carried (Message p k payload) = ap (λ (l : List ℕ). 1 ∷ p ∷ l) (sym (append_assoc (big_bytes 2 k) (digest payload) (payload_bytes payload)))

-- a host, a slot and a content
filled_carried : (h slot : ℕ) (c : Content) → slot_bytes h slot ++ content_text carried_text c ≡ (slot_bytes h slot ++ content_bytes c) ++ payload_bytes (payload_within c)
filled_carried h slot c =
    ap (λ (l : List ℕ). slot_bytes h slot ++ l) (content_carried c) ∙ sym (append_assoc (slot_bytes h slot) (content_bytes c) (payload_bytes (payload_within c)))

-- a body
pub body_carried : (b : Body) → body_text carried_text b ≡ body_bytes b ++ carried_bytes (payload_in b)
unfolding body_bytes
body_carried (Filled kind h slot content) = filled_carried h slot content
body_carried (Attest p h k payload) = ap (λ (l : List ℕ). p ∷ h ∷ l) (sym (append_assoc (big_bytes 2 k) (digest payload) (payload_bytes payload)))
body_carried (Ask h slot) = sym (append-nil (slot_bytes h slot))
body_carried Wedge = refl
body_carried (Frozen h slot) = sym (append-nil (slot_bytes h slot))
body_carried (Open lengths) = sym (append-nil (length lengths ∷ flat_map length_bytes lengths))

-- a statement
pub statement_carried : (s : Statement) → statement_text carried_text s ≡ spelling s ++ carried_bytes (payload_in s.body)
unfolding statement_text spelling
statement_carried s =
    let front : List ℕ = kind_byte s.body ∷ big_bytes 2 s.epoch in
    ap (λ (l : List ℕ). front ++ l) (body_carried s.body) ∙ sym (append_assoc front (body_bytes s.body) (carried_bytes (payload_in s.body)))

-- ---- what fits a record is what the types keep

content_fits : (c : Content) → IsContentSound c → FitsContent IsPayload c
content_fits (External payload) is = is
content_fits (Message p k payload) is = is

content_sound : (c : Content) → FitsContent IsPayload c → IsContentSound c
content_sound (External payload) is = is
content_sound (Message p k payload) is = is

pub body_fits : (b : Body) → IsBodySound b → FitsBody IsPayload b
body_fits (Filled kind h slot content) is = content_fits content is
body_fits (Attest p h k payload) is = is
body_fits (Ask h slot) is = is
body_fits Wedge is = is
body_fits (Frozen h slot) is = is
body_fits (Open lengths) is = is

-- and back
pub body_sound : (b : Body) → FitsBody IsPayload b → IsBodySound b
body_sound (Filled kind h slot content) is = content_sound content is
body_sound (Attest p h k payload) is = is
body_sound (Ask h slot) is = is
body_sound Wedge is = is
body_sound (Frozen h slot) is = is
body_sound (Open lengths) is = is

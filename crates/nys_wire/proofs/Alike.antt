-- Statements that are alike have one spelling.
use Rattle.std.proofs.Common.{◌≡◌, ℕ, ℤ, List, [], ◌∷◌, ◌++◌, Some, None, refl, ap, sym, ◌∙◌}
use Rattle.std.specs.Prelude.{Option}
use Rattle.std.specs.Option.{option_map}
use Rattle.byteorder.specs.Endian.{big_bytes}
use Rattle.nys_bytes.specs.declared.content.Content.{Content}
use Rattle.nys_bytes.specs.declared.content.Content.TheVariants.{External, Message}
use Rattle.nys_stmt.specs.declared.statement.Body.{Body}
use Rattle.nys_stmt.specs.declared.statement.Body.TheVariants.{Filled, Attest, Ask, Wedge, Frozen, Open}
use Rattle.nys_stmt.specs.declared.statement.Statement.{Statement}
use Rattle.nys_stmt.specs.Records.{payload_within, payload_in}
use Rattle.nys_stmt.specs.Spelling.{digest, content_bytes, slot_bytes, kind_byte, body_bytes, spelling}
use Rattle.nys_stmt.specs.Same.{with_payload, content_with}
use Rattle.nys_wire.specs.Laws.{AlikeIsSpelled}
use Rattle.nys_wire.proofs.Texts.{content_text, body_text}

-- the bytes of a digest; none where there is no payload
abbrev digest_in : Option (List ℕ) → List ℕ
digest_in (Some bytes) = bytes
digest_in None = []

-- a content is spelled with this digest, whatever its payload
abbrev content_as : List ℕ → Content → List ℕ
content_as bytes c = content_text (λ (payload : List ℤ). bytes) (content_with [] c)

-- a content is
content_spelled : (c : Content) → content_bytes c ≡ content_as (digest (payload_within c)) c
unfolding content_bytes
content_spelled (External payload) = refl
content_spelled (Message p k payload) = refl

-- the digest of a body
abbrev digest_of : Body → List ℕ
digest_of b = digest_in (option_map digest (payload_in b))

-- a body with this digest, whatever its payload
abbrev body_as : List ℕ → Body → List ℕ
body_as bytes b = body_text (λ (payload : List ℤ). bytes) b

-- a body is spelled by what it has beside its payload, and by its digest
body_spelled : (b : Body) → body_bytes b ≡ body_as (digest_of b) (with_payload [] b)
unfolding body_bytes
body_spelled (Filled kind h slot content) = ap (λ (l : List ℕ). slot_bytes h slot ++ l) (content_spelled content)
body_spelled (Attest p h k payload) = refl
body_spelled (Ask h slot) = refl
body_spelled Wedge = refl
body_spelled (Frozen h slot) = refl
body_spelled (Open lengths) = refl

-- its kind stays with another payload
kind_kept : (b : Body) → kind_byte b ≡ kind_byte (with_payload [] b)
kind_kept (Filled kind h slot content) = refl
kind_kept (Attest p h k payload) = refl
kind_kept (Ask h slot) = refl
kind_kept Wedge = refl
kind_kept (Frozen h slot) = refl
kind_kept (Open lengths) = refl

-- a statement by its epoch, its digest, and a body
abbrev spelled_as : ℕ → List ℕ → Body → List ℕ
spelled_as epoch bytes b = kind_byte b ∷ big_bytes 2 epoch ++ body_as bytes b

-- a statement is spelled so
statement_spelled : (s : Statement) → spelling s ≡ spelled_as s.epoch (digest_of s.body) (with_payload [] s.body)
unfolding spelling
statement_spelled s =
    ap (λ (n : ℕ). n ∷ big_bytes 2 s.epoch ++ body_bytes s.body) (kind_kept s.body)
    ∙ ap (λ (l : List ℕ). kind_byte (with_payload [] s.body) ∷ big_bytes 2 s.epoch ++ l) (body_spelled s.body)

-- so alike statements have one spelling
pub alike_is_spelled : AlikeIsSpelled
alike_is_spelled a b alike =
    statement_spelled a
    ∙ ap (λ (n : ℕ). spelled_as n (digest_of a.body) (with_payload [] a.body)) alike.epoch
    ∙ ap (λ (o : Option (List ℕ)). spelled_as b.epoch (digest_in o) (with_payload [] a.body)) alike.digests
    ∙ ap (λ (body : Body). spelled_as b.epoch (digest_of b.body) body) (alike.apart [])
    ∙ sym (statement_spelled b)

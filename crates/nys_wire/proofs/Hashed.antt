-- The law of the spelling of statements: a statement is read back from it with the digest in place of the payload.
use Rattle.std.proofs.Common.{◌≡◌, ℕ, ◌+◌, ℤ, pos, negsuc, List, [], ◌∷◌, ◌++◌, length, map, Some, refl, sym, ap, subst, ◌∙◌}
use Rattle.std.specs.Option.{option_map}
use Rattle.byteorder.specs.Endian.{big_bytes}
use Rattle.nys_bytes.specs.Reading.{Reading}
use Rattle.nys_bytes.specs.declared.content.Content.{Content}
use Rattle.nys_bytes.specs.declared.content.Content.TheVariants.{External, Message}
use Rattle.nys_stmt.specs.declared.statement.Body.{Body}
use Rattle.nys_stmt.specs.declared.statement.Body.TheVariants.{Filled, Attest, Ask, Wedge, Frozen, Open}
use Rattle.nys_stmt.specs.declared.statement.Statement.{Statement}
use Rattle.nys_stmt.specs.Ranges.{IsContentInRange, IsBodyInRange, IsBodySound, IsStatement}
use Rattle.nys_stmt.specs.Records.{payload_within, payload_in}
use Rattle.nys_stmt.specs.Spelling.{digest, content_bytes, slot_bytes, kind_byte, body_bytes, spelling}
use Rattle.nys_stmt.proofs.Sizes.{length-digest}
use Rattle.nys_stmt.specs.Same.{with_payload, content_with, AreAlike}
use Rattle.nys_wire.specs.Laws.{OneSpelling}
use Rattle.nys_wire.specs.Reading.{Reads, map_at, bytes_at, statement_at}
use Rattle.nys_wire.proofs.Steps.{IsField, Took, Again, at, map_takes, map_again}
use Rattle.nys_wire.proofs.Numbers.{bytes_are, bytes_read}
use Rattle.nys_wire.proofs.Texts.{content_text, body_text, statement_text, FitsContent, FitsBody, FitsStatement}
use Rattle.nys_wire.proofs.Bodies.{statement_is}
use Rattle.nys_wire.proofs.Wholes.{one_of}

-- ---- bytes as a list of numbers

-- the byte that a number is
abbrev byte_in : ℤ → ℕ
byte_in (pos n) = n
byte_in (negsuc n) = 0

-- bytes as numbers
abbrev numbers_of : List ℕ → List ℤ
numbers_of bytes = map pos bytes

-- the bytes that numbers are
abbrev bytes_in : List ℤ → List ℕ
bytes_in numbers = map byte_in numbers

-- bytes are kept as numbers
kept : (bytes : List ℕ) → bytes_in (numbers_of bytes) ≡ bytes
kept [] = refl
kept (b ∷ bytes) = ap (λ (l : List ℕ). b ∷ l) (kept bytes)

-- 32 bytes as numbers
unfoldable bare_at : Reads (List ℤ)
bare_at here = map_at numbers_of (bytes_at 32) here

-- numbers that are 32 bytes
record IsBare (numbers : List ℤ) : Type 0 where
  size : length (bytes_in numbers) ≡ 32
  whole : numbers_of (bytes_in numbers) ≡ numbers

-- a digest as numbers
abbrev hashed : List ℤ → List ℤ
hashed payload = numbers_of (digest payload)

-- a digest is 32 bytes
hashed_fits : (payload : List ℤ) → IsBare (hashed payload)
hashed_fits payload = record {
  size = ap length (kept (digest payload)) ∙ length-digest payload;
  whole = ap numbers_of (kept (digest payload));
}

-- 32 bytes
bare_is : IsField bare_at bytes_in IsBare
unfolding bare_at
bare_is = record {
  takes = λ before x bytes e.
      map_takes (bytes_at 32) numbers_of (λ (y : List ℤ × Reading). Took before (bytes_in y.0) y.1 × IsBare y.0) before x e
      (λ y is. let t = (bytes_are 32).takes before y bytes is in (
        subst (λ (l : List ℕ). Took before l y.1) (sym (kept y.0)) t.0,
        record { size = ap length (kept y.0) ∙ t.1.size; whole = ap numbers_of (kept y.0) },
      ));
  again = λ v rest place fits.
      let here = at place (bytes_in v ++ rest) in
      subst (λ (zs : List ℤ). Again (map_at numbers_of (bytes_at 32) here) zs rest) fits.whole
      (map_again (bytes_at 32) numbers_of (bytes_in v) rest here
      (place + 32, bytes_read 32 here (at (place + 32) rest) (bytes_in v) fits.size refl refl));
}

-- ---- a statement with its digest in place of its payload

-- a content
abbrev hashed_content : Content → Content
hashed_content c = content_with (hashed (payload_within c)) c

-- a body
abbrev hashed_body : Body → Body
hashed_body (Filled kind h slot content) = Filled kind h slot (hashed_content content)
hashed_body (Attest p h k payload) = Attest p h k (hashed payload)
hashed_body (Ask h slot) = Ask h slot
hashed_body Wedge = Wedge
hashed_body (Frozen h slot) = Frozen h slot
hashed_body (Open lengths) = Open lengths

-- a content is spelled by its digest
content_hashed : (c : Content) → content_text bytes_in (hashed_content c) ≡ content_bytes c
unfolding content_bytes
content_hashed (External payload) = ap (λ (l : List ℕ). 0 ∷ l) (kept (digest payload))
content_hashed (Message p k payload) = ap (λ (l : List ℕ). 1 ∷ p ∷ big_bytes 2 k ++ l) (kept (digest payload))

-- a body is
body_hashed : (b : Body) → body_text bytes_in (hashed_body b) ≡ body_bytes b
unfolding body_bytes
body_hashed (Filled kind h slot content) = ap (λ (l : List ℕ). slot_bytes h slot ++ l) (content_hashed content)
body_hashed (Attest p h k payload) = ap (λ (l : List ℕ). p ∷ h ∷ big_bytes 2 k ++ l) (kept (digest payload))
body_hashed (Ask h slot) = refl
body_hashed Wedge = refl
body_hashed (Frozen h slot) = refl
body_hashed (Open lengths) = refl

-- and has its kind
kind_hashed : (b : Body) → kind_byte (hashed_body b) ≡ kind_byte b
kind_hashed (Filled kind h slot content) = refl
kind_hashed (Attest p h k payload) = refl
kind_hashed (Ask h slot) = refl
kind_hashed Wedge = refl
kind_hashed (Frozen h slot) = refl
kind_hashed (Open lengths) = refl

-- a content keeps its ranges
content_ranges : (c : Content) → IsContentInRange c → IsContentInRange (hashed_content c)
content_ranges (External payload) is = is
content_ranges (Message p k payload) is = is

-- a body does
body_ranges : (b : Body) → IsBodyInRange b → IsBodyInRange (hashed_body b)
body_ranges (Filled kind h slot content) is = (is.0, is.1, content_ranges content is.2)
body_ranges (Attest p h k payload) is = is
body_ranges (Ask h slot) is = is
body_ranges Wedge is = is
body_ranges (Frozen h slot) is = is
body_ranges (Open lengths) is = is

-- the digest of a content fits
content_fits : (c : Content) → FitsContent IsBare (hashed_content c)
content_fits (External payload) = hashed_fits payload
content_fits (Message p k payload) = hashed_fits payload

-- that of a body does
body_fits : (b : Body) → IsBodySound b → FitsBody IsBare (hashed_body b)
body_fits (Filled kind h slot content) is = content_fits content
body_fits (Attest p h k payload) is = hashed_fits payload
body_fits (Ask h slot) is = tt
body_fits Wedge is = tt
body_fits (Frozen h slot) is = tt
body_fits (Open lengths) is = is

-- another payload in a content leaves nothing of the one before
content_over : (payload : List ℤ) (c : Content) → content_with payload (hashed_content c) ≡ content_with payload c
content_over payload (External own) = refl
content_over payload (Message p k own) = refl

-- nor in a body
body_over : (payload : List ℤ) (b : Body) → with_payload payload (hashed_body b) ≡ with_payload payload b
body_over payload (Filled kind h slot content) = ap (λ (c : Content). Filled kind h slot c) (content_over payload content)
body_over payload (Attest p h k own) = refl
body_over payload (Ask h slot) = refl
body_over payload Wedge = refl
body_over payload (Frozen h slot) = refl
body_over payload (Open lengths) = refl

-- the digest that stands in a content is that of its payload
content_digest : (c : Content) → bytes_in (payload_within (hashed_content c)) ≡ digest (payload_within c)
content_digest (External payload) = kept (digest payload)
content_digest (Message p k payload) = kept (digest payload)

-- that in a body is
body_digest : (b : Body) → option_map bytes_in (payload_in (hashed_body b)) ≡ option_map digest (payload_in b)
body_digest (Filled kind h slot content) = ap (λ (l : List ℕ). Some l) (content_digest content)
body_digest (Attest p h k payload) = ap (λ (l : List ℕ). Some l) (kept (digest payload))
body_digest (Ask h slot) = refl
body_digest Wedge = refl
body_digest (Frozen h slot) = refl
body_digest (Open lengths) = refl

-- a statement
abbrev hashed_statement : Statement → Statement
hashed_statement s = record { epoch = s.epoch; body = hashed_body s.body }

-- it has the spelling of the statement
statement_hashed : (s : Statement) → statement_text bytes_in (hashed_statement s) ≡ spelling s
unfolding statement_text spelling
statement_hashed s =
    ap (λ (n : ℕ). n ∷ big_bytes 2 s.epoch ++ body_text bytes_in (hashed_body s.body)) (kind_hashed s.body)
    ∙ ap (λ (l : List ℕ). kind_byte s.body ∷ big_bytes 2 s.epoch ++ l) (body_hashed s.body)

-- and is within its ranges
statement_fits : (s : Statement) → IsStatement s → FitsStatement IsBare (hashed_statement s)
statement_fits s is = record {
  range = record { epoch = is.range.epoch; body = body_ranges s.body is.range.body };
  parts = body_fits s.body is.sound;
}

-- statements that are one with their digests are alike
alike : (a b : Statement) → hashed_statement a ≡ hashed_statement b → AreAlike a b
alike a b e = record {
  epoch = ap (λ (s : Statement). s.epoch) e;
  apart = λ payload. sym (body_over payload a.body) ∙ ap (λ (s : Statement). with_payload payload s.body) e ∙ body_over payload b.body;
  digests = sym (body_digest a.body) ∙ ap (λ (s : Statement). option_map bytes_in (payload_in s.body)) e ∙ body_digest b.body;
}

-- no spelling of a statement begins another, and statements of one spelling are alike
pub one_spelling : OneSpelling
one_spelling a b x y fa fb e =
    let same : statement_text bytes_in (hashed_statement a) ++ x ≡ statement_text bytes_in (hashed_statement b) ++ y =
    ap (λ (l : List ℕ). l ++ x) (statement_hashed a) ∙ e ∙ ap (λ (l : List ℕ). l ++ y) (sym (statement_hashed b)) in
    let one = one_of (statement_at bare_at) (statement_text bytes_in) (FitsStatement IsBare) (statement_is bare_at bytes_in IsBare bare_is)
    (hashed_statement a) (hashed_statement b) x y (statement_fits a fa) (statement_fits b fb) same in
    (alike a b one.0, one.1)

-- How many bytes statements have.
use Rattle.std.proofs.Common.{◌≡◌, ℕ, ℤ, suc, ◌+◌, ◌*◌, ◌≤◌, List, [], ◌∷◌, ◌++◌, length, Option, None, Some, refl, arith}
use Rattle.std.specs.List.{flat_map}
use Rattle.std.proofs.lemmas.List.{length-append}
use Rattle.std.proofs.lemmas.List.Concat.{flat_map-cons}
use Rattle.sha2.proofs.Facts256.{length-sha256}
use Rattle.nys_bytes.specs.declared.content.Content.{Content}
use Rattle.nys_bytes.specs.declared.content.Content.TheVariants.{External, Message}
use Rattle.nys_stmt.specs.declared.statement.Body.{Body}
use Rattle.nys_stmt.specs.declared.statement.Body.TheVariants.{Filled, Attest, Ask, Wedge, Frozen, Open}
use Rattle.nys_stmt.specs.declared.statement.Statement.{Statement}
use Rattle.nys_stmt.specs.Ranges.{IsContentSound, IsBodySound}
use Rattle.nys_stmt.specs.Spelling.{payload_bytes, digest, content_bytes, length_bytes, body_bytes, spelling}

-- members of one size
pub length-each : {X : Type 0} (f : X → List ℕ) (k : ℕ) → ((x : X) → length (f x) ≡ k) → (xs : List X) → length (flat_map f xs) ≡ k * length xs
length-each f k each [] = omega arith
length-each f k each (x ∷ xs) =
    let rest = length-each f k each xs in
    let more : k * suc (length xs) ≡ k + k * length xs = omega arith in
    rw (flat_map-cons f x xs, length-append (f x) (flat_map f xs), each x, rest, more) refl

length-length_bytes : (o : Option ℕ) → length (length_bytes o) ≡ 2
length-length_bytes None = refl
length-length_bytes (Some n) = refl

-- a digest has 32 bytes
pub length-digest : (ns : List ℤ) → length (digest ns) ≡ 32
unfolding digest
length-digest ns = length-sha256 (payload_bytes ns)

-- a content has at most 36 bytes
length-content_bytes : (c : Content) → IsContentSound c → length (content_bytes c) ≤ 36
unfolding content_bytes
length-content_bytes (External payload) sound = omega (arith, length-digest payload)
length-content_bytes (Message p k payload) sound = omega (arith, length-digest payload)

-- a body has at most 65 bytes
length-body_bytes : (b : Body) → IsBodySound b → length (body_bytes b) ≤ 65
unfolding body_bytes
length-body_bytes (Filled kind h slot content) sound = omega (arith, length-content_bytes content sound)
length-body_bytes (Attest p h k payload) sound = omega (arith, length-digest payload)
length-body_bytes (Ask h slot) sound = omega arith
length-body_bytes Wedge sound = omega arith
length-body_bytes (Frozen h slot) sound = omega arith
length-body_bytes (Open lengths) sound = omega (arith, length-each length_bytes 2 length-length_bytes lengths, sound.few)

-- a statement has at most 68 bytes
pub length-spelling : (s : Statement) → IsBodySound s.body → length (spelling s) ≤ 68
unfolding spelling
length-spelling s sound = omega (arith, length-body_bytes s.body sound)

-- bytes that grew by a statement grew by at most 68
pub grown_by_spelling : (s : Statement) (old new : List ℕ) → IsBodySound s.body → new ≡ old ++ spelling s → length new ≤ length old + 68
grown_by_spelling s old new sound e = rw e (omega (arith, length-append old (spelling s), length-spelling s sound))

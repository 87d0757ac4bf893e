-- How many bytes records have.
use Rattle.std.proofs.Common.{◌≡◌, ℕ, ℤ, suc, ◌+◌, ◌*◌, ◌≤◌, List, [], ◌∷◌, ◌++◌, length, All, Option, None, Some, refl, arith}
use Rattle.std.specs.List.{flat_map}
use Rattle.std.proofs.lemmas.List.{length-append}
use Rattle.std.proofs.lemmas.List.Concat.{flat_map-cons}
use Rattle.nys_bytes.specs.declared.content.Content.{Content}
use Rattle.nys_bytes.specs.declared.content.Content.TheVariants.{External, Message}
use Rattle.nys_stmt.specs.declared.statement.Body.{Body}
use Rattle.nys_stmt.specs.declared.statement.Body.TheVariants.{Filled, Attest, Ask, Wedge, Frozen, Open}
use Rattle.nys_stmt.specs.declared.records.Record.{Record}
use Rattle.nys_stmt.specs.declared.tags.Tags.{Tags}
use Rattle.nys_stmt.specs.Ranges.{IsPayload, IsContentSound, IsBodySound}
use Rattle.nys_stmt.specs.Records.{payload_within, payload_in, carried_bytes, tag_bytes, maker_bytes, makers_bytes, record_spelling, IsTag, IsMaker, IsRecord}
use Rattle.nys_stmt.specs.Spelling.{number_bytes, payload_bytes, content_bytes, length_bytes, body_bytes, spelling}
use Rattle.nys_stmt.proofs.Rising.{few_from_rising}
use Rattle.nys_stmt.proofs.Sizes.{length-each, length-digest}

-- items of at most k bytes each
length-at_most : {X : Type 0} (f : X → List ℕ) (P : X → Type 0) (k : ℕ) → ((x : X) → P x → length (f x) ≤ k) → (xs : List X) → All P xs → length (flat_map f xs) ≤ k * length xs
length-at_most f P k each [] all = omega arith
length-at_most f P k each (x ∷ xs) all =
    let rest = length-at_most f P k each xs (λ i d lt. all (suc i) d (omega arith)) in
    let one = each x (all 0 x (omega arith)) in
    let more : k * suc (length xs) ≡ k + k * length xs = omega arith in
    rw (flat_map-cons f x xs, length-append (f x) (flat_map f xs), more) (omega (arith, one, rest))

-- a tag with its receiver has 33 bytes
length-tag : (t : ℕ × List ℕ) → IsTag t → length (tag_bytes t) ≤ 33
length-tag t is = omega (arith, is.size)

-- a maker has at most 1,091 bytes
length-maker : (t : Tags) → IsMaker t → length (maker_bytes t) ≤ 1091
unfolding maker_bytes
length-maker t is =
    let few = few_from_rising (λ x. x.0) 32 t.tags is.rule.rising is.rule.parties in
    let all = length-at_most tag_bytes IsTag 33 length-tag t.tags is.each in
    omega (arith, few, all)

-- the makers have at most 36,004 bytes
length-makers : (r : Record) → IsRecord r → length (makers_bytes r.makers) ≤ 36004
unfolding makers_bytes
length-makers r is =
    let few = few_from_rising (λ t. t.maker) 32 r.makers is.rule.rising is.rule.parties in
    let all = length-at_most maker_bytes IsMaker 1091 length-maker r.makers is.each in
    omega (arith, few, all)

-- a payload has at most 4,098 bytes
length-payload : (ns : List ℤ) → IsPayload ns → length (payload_bytes ns) ≤ 4098
unfolding payload_bytes number_bytes
length-payload ns is = omega (arith, length-each number_bytes 8 (λ z. refl) ns, is.few)

-- a content with its payload has at most 4,134
length-content : (c : Content) → IsContentSound c → length (content_bytes c) + length (payload_bytes (payload_within c)) ≤ 4134
unfolding content_bytes
length-content (External payload) sound = omega (arith, length-digest payload, length-payload payload sound)
length-content (Message p k payload) sound = omega (arith, length-digest payload, length-payload payload sound)

-- a length has two bytes
length-two : (o : Option ℕ) → length (length_bytes o) ≡ 2
length-two None = refl
length-two (Some n) = refl

-- a body with its payload has at most 4,137
length-body : (b : Body) → IsBodySound b → length (body_bytes b) + length (carried_bytes (payload_in b)) ≤ 4137
unfolding body_bytes
length-body (Filled kind h slot content) sound = omega (arith, length-content content sound)
length-body (Attest p h k payload) sound = omega (arith, length-digest payload, length-payload payload sound)
length-body (Ask h slot) sound = omega arith
length-body Wedge sound = omega arith
length-body (Frozen h slot) sound = omega arith
length-body (Open lengths) sound = omega (arith, length-each length_bytes 2 length-two lengths, sound.few)

-- a record has at most 40,147 bytes
pub length-record : (r : Record) → IsRecord r → length (record_spelling r) ≤ 40147
unfolding record_spelling spelling
length-record r is =
    let b = r.statement.body in
    let carried : List ℕ = body_bytes b ++ carried_bytes (payload_in b) in
    omega (arith, length-append carried (makers_bytes r.makers), length-append (body_bytes b) (carried_bytes (payload_in b)), length-body b is.statement.sound, length-makers r is)

-- so bytes that were made of nothing and its spelling are that few
pub few_bytes : (r : Record) (before bytes : List ℕ) → IsRecord r → before ≡ [] → bytes ≡ before ++ record_spelling r → length bytes ≤ 40147
few_bytes r before bytes is none e = rw (e, none) (length-record r is)

-- Statements that words write are within their ranges.
use Rattle.std.proofs.Common.{◌≡◌, ◌≤◌, ℕ, List, [], ◌∷◌, Bool, true, false, Option, Some, None, cond, subst, length, nat_lt}
use Rattle.std.specs.Prelude.{codes}
use Rattle.std.specs.Option.{option_map}
use Rattle.std.specs.Str.{bytes_eq}
use Rattle.std.proofs.lemmas.Option.{same_Some}
use Rattle.nys_text.specs.Numbers.{payload_of}
use Rattle.nys_bytes.specs.declared.content.Content.{Content}
use Rattle.nys_bytes.specs.declared.content.Content.TheVariants.{External, Message}
use Rattle.nys_stmt.specs.declared.statement.Body.{Body}
use Rattle.nys_stmt.specs.declared.statement.Body.TheVariants as body
use Rattle.nys_stmt.specs.declared.statement.FilledKind.{FilledKind}
use Rattle.nys_stmt.specs.declared.statement.Statement.{Statement}
use Rattle.nys_stmt.specs.Ranges.{IsBodyInRange, IsContentInRange, IsInRange}
use Rattle.nys_schedule.specs.declared.kind.Kind.{Kind}
use Rattle.nys_schedule.specs.declared.kind.Kind.TheVariants.{Filled as With_content, Attest, Ask, Wedge, Frozen, Open}
use Rattle.nys_schedule.specs.Choices.{◌>>=◌, each_of, upto}
use Rattle.nys_schedule.specs.Statements.{attested_of, body_of, content_of, filled_of, kind_of, length_of, lengths_of, message_of, slot_of, statement_of}
use Rattle.nys_schedule.proofs.ChoiceLemmas.{chained, each_some, mapped, of_four, of_three, of_two, untested, upto_most}

-- a message that words write is in range
message_in_range : (words : List (List ℕ)) (content : Content) → message_of words ≡ Some content
    → IsContentInRange content
message_in_range [] content e = absurd (cc)
message_in_range (p ∷ []) content e = absurd (cc)
message_in_range (p ∷ k ∷ numbers) content e =
    let made = of_three (upto 31 p) (upto 65535 k) (payload_of numbers) Message content e in
    subst IsContentInRange made.6 (upto_most 31 p made.0 made.3, upto_most 65535 k made.1 made.4)

-- a content that words write is in range
content_in_range : (words : List (List ℕ)) (content : Content) → content_of words ≡ Some content
    → IsContentInRange content
unfolding content_of
content_in_range [] content e = absurd (cc)
content_in_range (word ∷ words) content e =
    by_kind (bytes_eq word (codes "in")) (bytes_eq word (codes "msg")) e
  where
    by_kind : (input message : Bool)
        → cond input (option_map External (payload_of words)) (cond message (message_of words) None) ≡ Some content
        → IsContentInRange content
    by_kind true message is = subst IsContentInRange (mapped External (payload_of words) content is).2 tt
    by_kind false true is = message_in_range words content is
    by_kind false false is = absurd (cc)

-- what is said of a content that words write is in range
filled_in_range : (kind : FilledKind) (words : List (List ℕ)) (b : Body) → filled_of kind words ≡ Some b
    → IsBodyInRange b
unfolding filled_of
filled_in_range kind [] b e = absurd (cc)
filled_in_range kind (h ∷ []) b e = absurd (cc)
filled_in_range kind (h ∷ s ∷ words) b e =
    let made = of_three (upto 31 h) (upto 1023 s) (content_of words) (body.Filled kind) b e in
    subst IsBodyInRange made.6
    (upto_most 31 h made.0 made.3, upto_most 1023 s made.1 made.4, content_in_range words made.2 made.5)

-- an attestation that words write is in range
attested_in_range : (words : List (List ℕ)) (b : Body) → attested_of words ≡ Some b → IsBodyInRange b
unfolding attested_of
attested_in_range [] b e = absurd (cc)
attested_in_range (p ∷ []) b e = absurd (cc)
attested_in_range (p ∷ h ∷ []) b e = absurd (cc)
attested_in_range (p ∷ h ∷ k ∷ numbers) b e =
    let made = of_four (upto 31 p) (upto 31 h) (upto 65535 k) (payload_of numbers) body.Attest b e in
    subst IsBodyInRange made.8
    (upto_most 31 p made.0 made.4, upto_most 31 h made.1 made.5, upto_most 65535 k made.2 made.6)

-- a host and a slot that words write are in range
slot_in_range : (most : ℕ) (words : List (List ℕ)) (x : ℕ × ℕ) → slot_of most words ≡ Some x
    → (x.0 ≤ 31) × (x.1 ≤ most)
slot_in_range most [] x e = absurd (cc)
slot_in_range most (h ∷ []) x e = absurd (cc)
slot_in_range most (h ∷ s ∷ []) x e =
    let made = of_two (upto 31 h) (upto most s) (λ host slot. (host, slot)) x e in
    subst (λ (y : ℕ × ℕ). (y.0 ≤ 31) × (y.1 ≤ most)) made.4 (upto_most 31 h made.0 made.2, upto_most most s made.1 made.3)
slot_in_range most (h ∷ s ∷ word ∷ words) x e = absurd (cc)

-- lengths that words write are one or more
lengths_in_range : (words : List (List ℕ)) (lengths : List (Option ℕ))
    → lengths_of words ≡ Some lengths → 1 ≤ length lengths
unfolding lengths_of
lengths_in_range [] lengths e = absurd (cc)
lengths_in_range (word ∷ words) lengths e =
    each_some length_of word words lengths
    (untested (nat_lt 32 (length (word ∷ words))) (each_of length_of (word ∷ words)) lengths e)

-- a body that words write is in range
body_in_range : (kind : Kind) (words : List (List ℕ)) (b : Body) → body_of kind words ≡ Some b
    → IsBodyInRange b
body_in_range (With_content kind) words b e = filled_in_range kind words b e
body_in_range Attest words b e = attested_in_range words b e
body_in_range Ask words b e =
    let made = mapped (λ (x : ℕ × ℕ). body.Ask x.0 x.1) (slot_of 1023 words) b e in
    subst IsBodyInRange made.2 (slot_in_range 1023 words made.0 made.1)
body_in_range Wedge [] b e = subst IsBodyInRange (same_Some body.Wedge b e) tt
body_in_range Wedge (word ∷ words) b e = absurd (cc)
body_in_range Frozen words b e =
    let made = mapped (λ (x : ℕ × ℕ). body.Frozen x.0 x.1) (slot_of 1024 words) b e in
    subst IsBodyInRange made.2 (slot_in_range 1024 words made.0 made.1)
body_in_range Open words b e =
    let made = mapped body.Open (lengths_of words) b e in
    subst IsBodyInRange made.2 (lengths_in_range words made.0 made.1)

-- a statement that words write is in range
pub statement_in_range : (words : List (List ℕ)) (statement : Statement)
    → statement_of words ≡ Some statement
    → IsInRange statement
unfolding statement_of
statement_in_range [] statement e = absurd (cc)
statement_in_range (word ∷ []) statement e = absurd (cc)
statement_in_range (word ∷ e ∷ words) statement is =
    let make : ℕ → Body → Statement = λ epoch b. record { epoch = epoch; body = b } in
    let kind =
    chained (kind_of word) (λ kind. upto 63 e >>= λ epoch. body_of kind words >>= λ b. Some (make epoch b)) statement is in
    let made = of_two (upto 63 e) (body_of kind.0 words) make statement kind.2 in
    subst IsInRange made.4
    (record { epoch = upto_most 63 e made.0 made.2; body = body_in_range kind.0 words made.1 made.3 })

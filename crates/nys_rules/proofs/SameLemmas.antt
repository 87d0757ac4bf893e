-- Statements are called the same exactly where they are equal.
use Rattle.std.proofs.Common.{◌≡◌, ℕ, Bool, true, false, ◌&&◌, Some, None, refl, ap, sym, subst, ◌∙◌}
use Rattle.std.specs.Prelude.{◌==◌, List, Option, if◌then◌else◌}
use Rattle.std.specs.Bool.{Decides}
use Rattle.std.specs.Cmp.Lexicographic.{pointwise_decides}
use Rattle.std.proofs.lemmas.Bool.Decides.{Decides-eqb}
use Rattle.nys_bytes.specs.declared.content.Content.{Content}
use Rattle.nys_stmt.specs.declared.statement.Body.{Body}
use Rattle.nys_stmt.specs.declared.statement.Body.TheVariants.{Filled, Attest, Ask, Wedge, Frozen, Open}
use Rattle.nys_stmt.specs.declared.statement.FilledKind.{FilledKind}
use Rattle.nys_stmt.specs.declared.statement.FilledKind.TheVariants.{Offer, Order, Deliver, Report, Inherit}
use Rattle.nys_stmt.specs.declared.statement.Statement.{Statement}
use Rattle.nys_stmt.specs.Spelling.{filled_byte}
use Rattle.nys_votes.specs.Contents.{same_content}
use Rattle.nys_votes.proofs.ContentLemmas.{decide_contents, decide_payloads}
use Rattle.nys_rules.specs.Same.{DecideStatements, is_same_statement, same_body, same_kind, same_length, same_slot}

-- both tests pass
both : {x y : Bool} → (x && y) ≡ true → (x ≡ true) × (y ≡ true)
both {x = true} {y} e = (refl, e)
both {x = false} {y} e = absurd (cc)

-- two tests that pass
both_pass : {x y : Bool} → x ≡ true → y ≡ true → (x && y) ≡ true
both_pass {x = true} {y} e f = f
both_pass {x = false} {y} e f = absurd (cc)

-- lengths are called the same exactly where they are equal
decide_lengths : (a b : Option ℕ) → Decides (same_length a b) (a ≡ b)
decide_lengths None None = ((λ e. refl), (λ e. refl))
decide_lengths (Some n) (Some k) = ((λ e. ap (λ (x : ℕ). Some x) ((Decides-eqb n k).0 e)), (λ e. (Decides-eqb n k).1 (cc)))
decide_lengths None (Some k) = ((λ e. absurd (cc)), (λ e. absurd (cc)))
decide_lengths (Some n) None = ((λ e. absurd (cc)), (λ e. absurd (cc)))

-- slots that pass are one
slot_is : (h slot g at : ℕ) → same_slot h slot g at ≡ true → (h ≡ g) × (slot ≡ at)
slot_is h slot g at e = let t = both e in ((Decides-eqb h g).0 t.0, (Decides-eqb slot at).0 t.1)

-- a slot passes beside itself
slot_same : (h slot : ℕ) → same_slot h slot h slot ≡ true
slot_same h slot = both_pass ((Decides-eqb h h).1 refl) ((Decides-eqb slot slot).1 refl)

-- a slot and a content that pass are one
filled_is : (h slot g at : ℕ) (a b : Content) → (same_slot h slot g at && same_content a b) ≡ true
    → (h ≡ g) × (slot ≡ at) × (a ≡ b)
filled_is h slot g at a b e =
    let t = both e in let s = slot_is h slot g at t.0 in (s.0, s.1, (decide_contents a b).0 t.1)

-- a slot and a content pass beside themselves
filled_same : (h slot : ℕ) (a : Content) → (same_slot h slot h slot && same_content a a) ≡ true
filled_same h slot a = both_pass (slot_same h slot) ((decide_contents a a).1 refl)

-- the kind of a byte
abbrev kind_of : ℕ → FilledKind
kind_of b =
    if b == 1 then Offer else if b == 2 then Order else if b == 3 then Deliver else if b == 7 then Report else Inherit

-- the kind is that of its byte
kind_back : (k : FilledKind) → kind_of (filled_byte k) ≡ k
kind_back Offer = refl
kind_back Order = refl
kind_back Deliver = refl
kind_back Report = refl
kind_back Inherit = refl

-- kinds that pass are one
pub kind_is : (k l : FilledKind) → same_kind k l ≡ true → k ≡ l
kind_is k l e = sym (kind_back k) ∙ ap kind_of ((Decides-eqb (filled_byte k) (filled_byte l)).0 e) ∙ kind_back l

-- a kind passes beside itself
pub kind_same : (k : FilledKind) → same_kind k k ≡ true
kind_same k = (Decides-eqb (filled_byte k) (filled_byte k)).1 refl

-- bodies that pass are one
body_is : (a b : Body) → same_body a b ≡ true → a ≡ b
body_is (Filled k h slot a) (Filled l g at b) e =
    let t = both e in
    let w = kind_is k l t.0 in
    let f = filled_is h slot g at a b t.1 in
    let x = f.0 in
    let y = f.1 in
    let z = f.2 in
    cc
body_is (Attest p h k a) (Attest q g l b) e =
    let t = both e in
    let s = slot_is p h q g t.0 in
    let last = both t.1 in
    let x = s.0 in
    let y = s.1 in
    let z = (Decides-eqb k l).0 last.0 in
    let v = (decide_payloads a b).0 last.1 in
    cc
body_is (Ask h slot) (Ask g at) e = let s = slot_is h slot g at e in let x = s.0 in let y = s.1 in cc
body_is Wedge Wedge e = refl
body_is (Frozen h slot) (Frozen g at) e = let s = slot_is h slot g at e in let x = s.0 in let y = s.1 in cc
body_is (Open a) (Open b) e = ap (λ (lengths : List (Option ℕ)). Open lengths) ((pointwise_decides decide_lengths a b).0 e)
body_is _ _ e = absurd (cc)

-- a body passes beside itself
body_same : (b : Body) → same_body b b ≡ true
body_same (Filled k h slot a) = both_pass (kind_same k) (filled_same h slot a)
body_same (Attest p h k a) =
    both_pass (slot_same p h) (both_pass ((Decides-eqb k k).1 refl) ((decide_payloads a a).1 refl))
body_same (Ask h slot) = slot_same h slot
body_same Wedge = refl
body_same (Frozen h slot) = slot_same h slot
body_same (Open a) = (pointwise_decides decide_lengths a a).1 refl

-- statements that pass are one, and only those
pub decide_statements : DecideStatements
decide_statements a b = (
  (λ e.
      let t = both e in
      let x = (Decides-eqb a.epoch b.epoch).0 t.0 in
      let y = body_is a.body b.body t.1 in
      λ i. record { epoch = x i; body = y i }),
  (λ e.
      subst (λ (s : Statement). is_same_statement a s ≡ true) e
      (both_pass ((Decides-eqb a.epoch a.epoch).1 refl) (body_same a.body))),
)

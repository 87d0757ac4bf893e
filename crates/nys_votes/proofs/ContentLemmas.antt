-- Payloads and contents are called the same exactly where they are equal.
use Rattle.std.proofs.Common.{◌≡◌, ℕ, ℤ, Bool, true, false, ◌==◌, ◌&&◌, List, refl, ap, eqb→eq, eq-eqb}
use Rattle.std.specs.Bool.{Decides}
use Rattle.std.specs.Cmp.Lexicographic.{pointwise_decides}
use Rattle.std.proofs.lemmas.Bool.Decides.{Decides-int_eq, Decides-eqb}
use Rattle.nys_bytes.specs.declared.content.Content.{Content}
use Rattle.nys_bytes.specs.declared.content.Content.TheVariants.{External, Message}
use Rattle.nys_votes.specs.Contents.{DecideContents, DecidePayloads, same_content, same_payload}

-- number by number
pub decide_payloads : DecidePayloads
unfolding same_payload
decide_payloads a b = pointwise_decides Decides-int_eq a b

-- a test of both is true where each is
both_true : (a b : Bool) → (a && b) ≡ true → (a ≡ true) × (b ≡ true)
both_true true b e = (refl, e)
both_true false b e = absurd (cc)

-- both of two tests that are true
and_true : (a b : Bool) → a ≡ true → b ≡ true → (a && b) ≡ true
and_true true b e f = f
and_true false b e f = absurd (cc)

-- the link, the number and the payload decide what a message is
same_message : (p q k l : ℕ) (a b : List ℤ) → Decides ((p == q) && ((k == l) && same_payload a b)) (Message p k a ≡ Message q l b)
same_message p q k l a b = (
  (λ e.
      let rest = both_true (p == q) ((k == l) && same_payload a b) e in
      let last = both_true (k == l) (same_payload a b) rest.1 in
      λ i. Message ((Decides-eqb p q).0 rest.0 i) ((Decides-eqb k l).0 last.0 i) ((decide_payloads a b).0 last.1 i)),
  (λ e.
      and_true (p == q) ((k == l) && same_payload a b) ((Decides-eqb p q).1 (cc))
      (and_true (k == l) (same_payload a b) ((Decides-eqb k l).1 (cc)) ((decide_payloads a b).1 (cc)))),
)

-- an input is no message
pub decide_contents : DecideContents
unfolding same_content
decide_contents (External a) (External b) =
    ((λ e. ap (λ x. External x) ((decide_payloads a b).0 e)), (λ e. (decide_payloads a b).1 (cc)))
decide_contents (External a) (Message p k b) = ((λ e. absurd (cc)), (λ e. absurd (cc)))
decide_contents (Message p k a) (External b) = ((λ e. absurd (cc)), (λ e. absurd (cc)))
decide_contents (Message p k a) (Message q l b) = same_message p q k l a b

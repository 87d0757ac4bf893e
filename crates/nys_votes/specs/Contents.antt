-- Equality of payloads and contents, computed.
use Rattle.std.specs.Prelude.{◌≡◌, ℤ, Bool, false, ◌&&◌, ◌==◌, List}
use Rattle.std.specs.Bool.{Decides}
use Rattle.std.specs.Cmp.Lexicographic.{pointwise}
use Rattle.std.specs.Ordering.{int_eq}
use Rattle.nys_bytes.specs.declared.content.Content.{Content}
use Rattle.nys_bytes.specs.declared.content.Content.TheVariants.{External, Message}

-- the payloads have the same numbers in the same order
unfoldable pub same_payload : List ℤ → List ℤ → Bool
same_payload a b = pointwise int_eq a b

-- both are inputs, or the message with one number on one link, and their payloads are the same
unfoldable pub same_content : Content → Content → Bool
same_content (External a) (External b) = same_payload a b
same_content (External a) (Message p k b) = false
same_content (Message p k a) (External b) = false
same_content (Message p k a) (Message q l b) = (p == q) && ((k == l) && same_payload a b)

-- payloads are called the same exactly where they are equal
abbrev pub DecidePayloads : Type 0
DecidePayloads = (a b : List ℤ) → Decides (same_payload a b) (a ≡ b)

-- contents are called the same exactly where they are equal
abbrev pub DecideContents : Type 0
DecideContents = (a b : Content) → Decides (same_content a b) (a ≡ b)

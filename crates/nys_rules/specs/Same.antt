-- Equality of statements, computed.
use Rattle.std.specs.Prelude.{◌≡◌, ℕ, Bool, true, false, ◌&&◌, ◌==◌, Option, Some, None}
use Rattle.std.specs.Bool.{Decides}
use Rattle.std.specs.Cmp.Lexicographic.{pointwise}
use Rattle.nys_stmt.specs.declared.statement.Body.{Body}
use Rattle.nys_stmt.specs.declared.statement.Body.TheVariants.{Filled, Attest, Ask, Wedge, Frozen, Open}
use Rattle.nys_stmt.specs.declared.statement.FilledKind.{FilledKind}
use Rattle.nys_stmt.specs.declared.statement.Statement.{Statement}
use Rattle.nys_stmt.specs.Spelling.{filled_byte}
use Rattle.nys_votes.specs.Contents.{same_content, same_payload}

-- both hosts are retired, or both have one length
abbrev pub same_length : Option ℕ → Option ℕ → Bool
same_length None None = true
same_length (Some n) (Some k) = n == k
same_length _ _ = false

-- both are of one slot of one host
abbrev pub same_slot : ℕ → ℕ → ℕ → ℕ → Bool
same_slot h slot g at = (h == g) && (slot == at)

-- both say the same of a content
abbrev pub same_kind : FilledKind → FilledKind → Bool
same_kind k l = filled_byte k == filled_byte l

-- both bodies say the same
abbrev pub same_body : Body → Body → Bool
same_body (Filled k h slot a) (Filled l g at b) = same_kind k l && (same_slot h slot g at && same_content a b)
same_body (Attest p h k a) (Attest q g l b) = same_slot p h q g && ((k == l) && same_payload a b)
same_body (Ask h slot) (Ask g at) = same_slot h slot g at
same_body Wedge Wedge = true
same_body (Frozen h slot) (Frozen g at) = same_slot h slot g at
same_body (Open a) (Open b) = pointwise same_length a b
same_body _ _ = false

-- both statements say the same, payloads included
abbrev pub is_same_statement : Statement → Statement → Bool
is_same_statement a b = (a.epoch == b.epoch) && same_body a.body b.body

-- statements are called the same exactly where they are equal
abbrev pub DecideStatements : Type 0
DecideStatements = (a b : Statement) → Decides (is_same_statement a b) (a ≡ b)

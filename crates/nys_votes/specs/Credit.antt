-- Which contents the credit rule allows in a slot. Heads stand by link: the length that the log had when
-- the head of the link from p first was its head, at place p.
use Rattle.std.specs.Prelude.{ℕ, ◌+◌, Bool, false, nat_le, ◌||◌, List, Option, is_none, position}
use Rattle.nys_bytes.specs.declared.content.Content.{Content}
use Rattle.nys_bytes.specs.declared.content.Content.TheVariants.{External, Message}
use Rattle.nys_votes.specs.Seats.{passes, seat_of}

-- a head that is recorded at a length is overdue in the slot
abbrev pub is_late : ℕ → ℕ → ℕ → Bool
is_late credit slot since = nat_le (since + credit) slot

-- the head of the link from p is overdue in the slot
unfoldable pub is_overdue : (credit slot : ℕ) → List (Option ℕ) → ℕ → Bool
is_overdue credit slot heads p = passes (is_late credit slot) (seat_of heads p)

-- the lowest link whose head is overdue
unfoldable pub lowest_overdue : (credit slot : ℕ) → List (Option ℕ) → Option ℕ
lowest_overdue credit slot heads = position (passes (is_late credit slot)) heads

-- the content is a message of a link that is overdue
abbrev pub settles_overdue : (credit slot : ℕ) → List (Option ℕ) → Content → Bool
settles_overdue credit slot heads (External payload) = false
settles_overdue credit slot heads (Message p k payload) = is_overdue credit slot heads p

-- no link is overdue, or the content is a message of one that is
unfoldable pub allows : (credit slot : ℕ) → List (Option ℕ) → Content → Bool
allows credit slot heads content = is_none (lowest_overdue credit slot heads) || settles_overdue credit slot heads content

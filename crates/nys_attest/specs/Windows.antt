-- What is kept of the links into one host: of each the number that comes next, and what makers attest for
-- the 64 numbers from it on.
use Rattle.std.specs.Prelude.{ℕ, ◌+◌, ◌-◌, ℤ, Bool, ◌&&◌, nat_le, nat_lt, if◌then◌else◌, List, [], slice_index_or, Option, Some, None}
use Rattle.nys_rules.specs.declared.limits.TheConstants.{WINDOW}
use Rattle.nys_attest.specs.declared.window.Recorded.{Recorded}
use Rattle.nys_attest.specs.declared.window.Recorded.TheVariants.{New, Other, OutOfWindow, Same}
use Rattle.nys_votes.specs.Contents.{same_payload}
use Rattle.nys_votes.specs.Seats.{no_seats, seat_of}

-- what is kept of one link
pub record Window : Type 0 where
  -- the number that comes next
  pub next : ℕ
  -- the seats of the numbers from there on, where something is kept of them
  pub kept : List (Option (List (Option (List ℤ))))

-- nothing is kept, and the first number comes next
abbrev pub no_window : Window
no_window = record { next = 0; kept = [] }

-- the number is one of the 64 from the next on
abbrev pub is_in_window : ℕ → ℕ → Bool
is_in_window next k = nat_le next k && nat_lt k (next + WINDOW)

-- the seats where there are some, else empty ones
abbrev pub seats_in : {A : Type 0} → Option (List (Option A)) → List (Option A)
seats_in None = no_seats
seats_in (Some seats) = seats

-- the seats at a place of the window
abbrev pub seats_in_place : List (Option (List (Option (List ℤ)))) → ℕ → List (Option (List ℤ))
seats_in_place kept place = seats_in (slice_index_or kept place None)

-- the payloads that makers attest for a number of the link
unfoldable pub seats_of : Window → ℕ → List (Option (List ℤ))
seats_of window k =
    if is_in_window window.next k then seats_in_place window.kept (k - window.next) else no_seats

-- the number that comes next on the link from p
unfoldable pub next_of : List Window → ℕ → ℕ
next_of table p = (slice_index_or table p no_window).next

-- the payloads that makers attest for number k of the link from p, by maker
unfoldable pub seats_at : List Window → (p k : ℕ) → List (Option (List ℤ))
seats_at table p k = seats_of (slice_index_or table p no_window) k

-- how a payload stands to the one that is kept of its maker
abbrev pub beside : Option (List ℤ) → List ℤ → Recorded
beside None payload = New
beside (Some other) payload = if same_payload other payload then Same else Other

-- how an attestation is recorded: outside of the window it isn't kept, and of a maker the first stays
unfoldable pub recorded : (next k : ℕ) → List (Option (List ℤ)) → (maker : ℕ) → List ℤ → Recorded
recorded next k seats maker payload =
    if is_in_window next k then beside (seat_of seats maker) payload else OutOfWindow

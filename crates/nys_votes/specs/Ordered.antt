-- Orders that a host collects for its own offer, and the certificate that they make.
use Rattle.std.specs.Prelude.{ℕ, ◌+◌, Bool, nat_le, List, [], ◌∷◌, Option, Some, None}
use Rattle.nys_stmt.specs.declared.records.Record.{Record}
use Rattle.nys_stmt.specs.declared.statement.Statement.{Statement}
use Rattle.nys_stmt.specs.declared.tags.Tags.{Tags}

-- so many makers of an Order are enough for a certificate
abbrev pub is_ordered : ℕ → ℕ → Bool
is_ordered q count = nat_le q count

-- the makers that are kept with their tags, rising, where the first seat is maker n's
abbrev pub makers_from : ℕ → List (Option (List (ℕ × List ℕ))) → List Tags
makers_from n [] = []
makers_from n (None ∷ seats) = makers_from (n + 1) seats
makers_from n (Some tags ∷ seats) = record { maker = n; tags = tags } ∷ makers_from (n + 1) seats

-- the makers of a record: those that are kept with their tags, rising
unfoldable pub makers_of : List (Option (List (ℕ × List ℕ))) → List Tags
makers_of seats = makers_from 0 seats

-- a statement with all makers that are kept
abbrev pub record_from : Statement → List (Option (List (ℕ × List ℕ))) → Record
record_from statement seats = record { statement = statement; makers = makers_of seats }

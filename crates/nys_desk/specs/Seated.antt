-- Seats that are made when they are needed, and the offer that a node made itself.
use Rattle.std.specs.Prelude.{ℕ, List, Option, Some, None, option_map}
use Rattle.nys_bytes.specs.declared.content.Content.{Content}
use Rattle.nys_desk.specs.declared.desk.OwnOffer.{OwnOffer}
use Rattle.nys_votes.specs.Seats.{no_seats}

-- the seats, each empty where none were made yet
abbrev pub seats_of : {A : Type 0} → Option (List (Option A)) → List (Option A)
seats_of None = no_seats
seats_of (Some seats) = seats

-- the content of the node's own offer
abbrev pub offered_of : Option OwnOffer → Option Content
offered_of own = option_map (λ o. o.content) own

-- the orders of the node's own offer
abbrev pub orders_of : Option OwnOffer → List (Option (List (ℕ × List ℕ)))
orders_of own = seats_of (option_map (λ o. o.orders) own)

-- Attestations of one message, by maker.
use Rattle.std.specs.Prelude.{ℕ, ℤ, nat_lt, List, Option}
use Rattle.nys_votes.specs.Contents.{same_payload}
use Rattle.nys_votes.specs.Seats.{count_seats, lowest}

-- how many makers attest the payload
unfoldable pub attests_for : List ℤ → List (Option (List ℤ)) → ℕ
attests_for payload seats = count_seats (same_payload payload) seats

-- of the payloads that more makers attest than may lie, that of the lowest maker
unfoldable pub attested : ℕ → List (Option (List ℤ)) → Option (List ℤ)
attested t seats = lowest (λ payload. nat_lt t (attests_for payload seats)) seats

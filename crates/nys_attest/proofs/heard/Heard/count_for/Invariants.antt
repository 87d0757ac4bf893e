-- What is counted and what the rest counts are what all seats count.
use Rattle.std.proofs.Common.{◌≡◌, ◌≤◌, ◌+◌, drop, length, count_by}
use Rattle.nys_votes.specs.Contents.{same_payload}
use Rattle.nys_votes.specs.Seats.{passes}
use Rattle.nys_attest.proofs.heard.Heard.count_for.Given as goal

abbrev pub invariant-loop-maker : goal.invariant-loop-maker
invariant-loop-maker l =
    (l.count + count_by (passes (same_payload l.payload)) (drop l.maker l.self) ≡ count_by (passes (same_payload l.payload)) l.self)
    × (l.count ≤ l.maker)
    × (length l.self ≡ 32)

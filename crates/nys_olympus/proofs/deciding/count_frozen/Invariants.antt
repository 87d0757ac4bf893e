use Rattle.std.proofs.Common.{◌≡◌, ◌≤◌, ◌+◌, drop, length, count_by}
use Rattle.std.specs.Prelude.{nat_le}
use Rattle.nys_votes.specs.Seats.{passes}
use Rattle.nys_olympus.proofs.deciding.count_frozen.Given as goal

-- what is counted and what the rest counts are what all seats count
abbrev pub invariant-loop-guard : goal.invariant-loop-guard
invariant-loop-guard l =
    (l.count + count_by (passes (λ f. nat_le f l.slot)) (drop l.guard l.seats) ≡ count_by (passes (λ f. nat_le f l.slot)) l.seats)
    × (l.count ≤ l.guard)
    × (length l.seats ≡ 32)

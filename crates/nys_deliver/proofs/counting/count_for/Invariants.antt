-- What is counted and what the rest counts are what all seats count.
use Rattle.std.proofs.Common.{◌≡◌, ◌≤◌, ◌+◌, drop, length, count_by}
use Rattle.nys_votes.specs.Contents.{same_content}
use Rattle.nys_votes.specs.Seats.{passes}
use Rattle.nys_deliver.proofs.counting.count_for.Given as goal

abbrev pub invariant-loop-maker : goal.invariant-loop-maker
invariant-loop-maker l =
    (l.count + count_by (passes (λ v. same_content l.content v.content)) (drop l.maker l.held)
    ≡ count_by (passes (λ v. same_content l.content v.content)) l.held)
    × (l.count ≤ l.maker)
    × (length l.held ≡ 32)

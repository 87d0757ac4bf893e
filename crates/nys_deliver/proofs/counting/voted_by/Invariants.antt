-- What the rest finds is what all seats find.
use Rattle.std.proofs.Common.{◌≡◌, drop, length}
use Rattle.std.specs.Prelude.{find, nat_le}
use Rattle.nys_votes.specs.Delivered.{votes_for}
use Rattle.nys_votes.specs.Seats.{passes}
use Rattle.nys_deliver.proofs.counting.voted_by.Given as goal

abbrev pub invariant-loop-maker : goal.invariant-loop-maker
invariant-loop-maker l =
    (find (passes (λ v. nat_le l.n (votes_for v.content l.held))) (drop l.maker l.held)
    ≡ find (passes (λ v. nat_le l.n (votes_for v.content l.held))) l.held)
    × (length l.held ≡ 32)

-- What the rest finds is what all seats find.
use Rattle.std.proofs.Common.{◌≡◌, drop, length}
use Rattle.std.specs.List.{position_from}
use Rattle.nys_votes.specs.Credit.{is_late}
use Rattle.nys_votes.specs.Seats.{passes}
use Rattle.nys_credit.proofs.places.lowest_overdue.Given as goal

abbrev pub invariant-loop-p : goal.invariant-loop-p
invariant-loop-p l =
    (position_from (passes (is_late l.credit l.slot)) l.p (drop l.p l.heads) ≡ position_from (passes (is_late l.credit l.slot)) 0 l.heads)
    × (length l.heads ≡ 32)

-- What the rest finds is what all seats find.
use Rattle.std.proofs.Common.{◌≡◌, drop, length}
use Rattle.std.specs.Prelude.{is_some}
use Rattle.std.specs.List.{position_from}
use Rattle.nys_credit.proofs.places.lowest.Given as goal

abbrev pub invariant-loop-p : goal.invariant-loop-p
invariant-loop-p l =
    (position_from is_some l.p (drop l.p l.heads) ≡ position_from is_some 0 l.heads)
    × (length l.heads ≡ 32)

-- The makers so far and those of the seats that are left are the makers of all seats.
use Rattle.std.proofs.Common.{◌≡◌, ◌<◌, ◌++◌, drop, length}
use Rattle.std.specs.Prelude.{All}
use Rattle.nys_votes.specs.Ordered.{makers_from}
use Rattle.nys_order.proofs.slot.makers_with_tags.Given as goal

abbrev pub invariant-loop-maker : goal.invariant-loop-maker
invariant-loop-maker l =
    (l.makers ++ makers_from l.maker (drop l.maker l.held) ≡ makers_from 0 l.held)
    × All (λ t. t.maker < l.maker) l.makers
    × (length l.held ≡ 32)

-- The makers so far and those of the seats that are left are the makers of all seats.
use Rattle.std.proofs.Common.{◌≡◌, ◌<◌, ◌++◌, drop}
use Rattle.std.specs.Prelude.{All}
use Rattle.nys_votes.specs.Ordered.{makers_from}
use Rattle.nys_world.proofs.lists.seated.Given as goal

abbrev pub invariant-loop-maker : goal.invariant-loop-maker
invariant-loop-maker l =
    (l.makers ++ makers_from l.maker (drop l.maker l.seats) ≡ makers_from 0 l.seats) × All (λ t. t.maker < l.maker) l.makers

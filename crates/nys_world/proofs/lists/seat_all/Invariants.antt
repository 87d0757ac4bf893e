-- The seats so far, once the makers that are left took theirs, are those of all makers.
use Rattle.std.proofs.Common.{◌≡◌, drop, length}
use Rattle.nys_world.proofs.SeatLemmas.{with_makers}
use Rattle.nys_world.proofs.lists.seat_all.Given as goal

abbrev pub invariant-loop-i : goal.invariant-loop-i
invariant-loop-i l =
    (with_makers (drop l.i l.makers) l.seats.items ≡ with_makers l.makers l.fn.seats.items) × (length l.seats.items ≡ 33)

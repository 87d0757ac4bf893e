use Rattle.std.proofs.Common.{◌≡◌, refl, arith}
use Rattle.nys_votes.specs.Seats.{count_seats}
use Rattle.nys_seats.proofs.seats.Seats.new.Goals as goal

-- no seat is taken
pub invariant_of-result : goal.invariant_of-result
unfolding count_seats
invariant_of-result g c =
    let all : c.loop.counter ≡ 32 = omega (arith, c.loop.auto.counter-end, c.loop-test.false) in
    rw c.loop.invariant (rw all (record { seats = refl; count = refl }))

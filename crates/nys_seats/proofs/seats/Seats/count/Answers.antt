use Rattle.std.proofs.Common.{arith}
use Rattle.nys_seats.proofs.CountLemmas.{not_more}
use Rattle.nys_seats.proofs.seats.Seats.count.Goals as goal

-- at most all are taken
pub returns-clause-few : goal.returns-clause-few
returns-clause-few g c = omega (arith, not_more c.self.inside.held.items, c.self.invariant.count, c.self.invariant.seats)

use Rattle.std.proofs.Common.{◌≡◌, rules}
use Rattle.nys_votes.specs.Seats.{no_seats}
use Rattle.nys_olympus.proofs.Rows.{row_table}
use Rattle.nys_olympus.proofs.olympus.none_frozen.Goals as goal

-- there were as many turns as there are hosts
pub returns : goal.returns
returns c = let all : c.loop.counter ≡ 32 = search rules in row_table c.loop.frozen.items c.loop.counter no_seats c.loop.invariant all

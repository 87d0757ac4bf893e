-- Each seat is a host's.
use Rattle.nys_votes.proofs.SeatLemmas.{counts_kept, counts_seats}
use Rattle.nys_votes.proofs.laws.seats_law.Goals as goal

pub returns-clause-counts : goal.returns-clause-counts
returns-clause-counts g c = counts_seats

pub returns-clause-kept : goal.returns-clause-kept
returns-clause-kept g c = counts_kept

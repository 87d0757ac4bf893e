-- The first of the seats that are left is the first of all.
use Rattle.std.proofs.Common.{rules}
use Rattle.nys_votes.specs.Credit.{is_late, lowest_overdue}
use Rattle.nys_votes.specs.Seats.{passes}
use Rattle.nys_credit.proofs.PlaceLemmas.{is_first, is_none}
use Rattle.nys_credit.proofs.places.lowest_overdue.Goals as goal

pub returns-then-is_late-clause-found : goal.returns-then-is_late-clause-found
unfolding lowest_overdue
returns-then-is_late-clause-found c =
    is_first (passes (is_late c.args.credit c.args.slot)) c.loop-p.p c.args.heads.now c.loop-p.invariant.0 (search rules) (search rules)

pub returns-clause-found : goal.returns-clause-found
unfolding lowest_overdue
returns-clause-found c =
    is_none (passes (is_late c.args.credit c.args.slot)) c.loop-p.p c.args.heads.now c.loop-p.invariant.0 (search rules)

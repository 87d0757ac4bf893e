use Rattle.nys_schedule.proofs.ListLemmas.{next_above}
use Rattle.nys_schedule.proofs.list.listed.Goals as goal

-- the next number is above the parties so far
pub push-requires-clause-above : goal.push-requires-clause-above
push-requires-clause-above c =
    next_above c.args.first c.args.rest.now c.loop-number.parties c.loop-number.number-index c.loop-number-test.true c.requires.rising c.loop-number.invariant

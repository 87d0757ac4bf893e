-- It is kept, or not.
use Rattle.nys_world.proofs.TakingLemmas.{takes_left, takes_more}
use Rattle.nys_world.proofs.giving.keep_take.Goals as goal

-- no trace is wanted
pub returns-then-not-traced : goal.returns-then-not-traced
returns-then-not-traced c = λ all are. takes_left c.args.traced _ _ c.if-not-traced.true

-- it is kept
pub returns : goal.returns
returns c = λ all are. takes_more c.args.traced c.args.takes.now.items _ all c.args.taken c.in_ok-push.ensures.items are

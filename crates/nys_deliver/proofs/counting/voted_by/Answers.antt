-- Too few makers voted, whatever for.
use Rattle.std.proofs.Common.{◌<◌, subst}
use Rattle.nys_deliver.proofs.VoteLemmas.{too_few}
use Rattle.nys_deliver.proofs.counting.voted_by.Goals as goal

pub returns-then-count-n-clause-found : goal.returns-then-count-n-clause-found
returns-then-count-n-clause-found c =
    too_few c.args.n c.args.held.now (subst (λ k. k < c.args.n) c.count.ensures.count c.if-count-n.true)

-- Where no vote says what the votes are for, there are none.
use Rattle.std.proofs.Common.{refl}
use Rattle.nys_deliver.proofs.VoteLemmas.{none_voted}
use Rattle.nys_deliver.proofs.slot.DeliverSlot.votes.Goals as goal

pub returns-in-None-clause-none : goal.returns-in-None-clause-none
returns-in-None-clause-none c =
    rw (← c.self.view_is) (
      (λ _. none_voted c.self.inside.about c.self.inside.held c.args.content.now c.self.invariant c.in-None.is),
      (λ _. refl),
    )

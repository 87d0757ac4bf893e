use Rattle.nys_wire.proofs.Places.{tags_rise}
use Rattle.nys_wire.proofs.makers.TagIter.again.Goals as goal

pub returns-clause-rule : goal.returns-clause-rule
returns-clause-rule c = rw (← c.self.view_is) (tags_rise _ _ _ c.self.invariant)

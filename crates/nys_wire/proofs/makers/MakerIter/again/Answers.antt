use Rattle.nys_wire.proofs.Places.{makers_rise}
use Rattle.nys_wire.proofs.makers.MakerIter.again.Goals as goal

pub returns-clause-rule : goal.returns-clause-rule
returns-clause-rule c = rw (← c.self.view_is) (makers_rise _ _ _ c.self.invariant)

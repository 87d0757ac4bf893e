use Rattle.nys_wire.proofs.Places.{lengths_are}
use Rattle.nys_wire.proofs.opening.LengthsRef.again.Goals as goal

pub returns-clause-rule : goal.returns-clause-rule
returns-clause-rule c = rw (← c.self.view_is) (lengths_are _ _ c.self.invariant.0 c.self.invariant.1)

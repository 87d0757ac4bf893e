use Rattle.std.proofs.Common.{sym}
use Rattle.nys_wire.specs.Reading.{length_at}
use Rattle.nys_wire.proofs.Places.{counted}
use Rattle.nys_wire.proofs.opening.LengthsRef.len.Goals as goal

-- as many are left as the count says
pub returns-clause-size : goal.returns-clause-size
returns-clause-size c = rw (← c.self.view_is) (sym (counted (λ _. length_at) (λ _. 0) _ 0 _ c.self.invariant.0))

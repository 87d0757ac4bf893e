use Rattle.nys_wire.specs.Reading.{length_at}
use Rattle.nys_wire.proofs.Each.{Behind}
use Rattle.nys_wire.proofs.opening.pass.Given as goal

-- some that were passed and those that are still read are the whole
abbrev pub invariant-loop : goal.invariant-loop
invariant-loop l = Behind (λ _. length_at) (λ _. 0) l.count l.counter 0 l.fields l.fn.fields

use Rattle.std.proofs.Common.{◌+◌}
use Rattle.nys_wire.specs.Reading.{maker_at}
use Rattle.nys_wire.proofs.Each.{Behind}
use Rattle.nys_wire.proofs.makers.pass_makers.Given as goal

-- some that were passed and those that are still read are the whole
abbrev pub invariant-loop : goal.invariant-loop
invariant-loop l = Behind maker_at (λ t. t.maker + 1) l.count l.counter l.least l.fields l.fn.fields

use Rattle.std.proofs.Common.{◌+◌}
use Rattle.nys_wire.specs.Reading.{tag_at}
use Rattle.nys_wire.proofs.Each.{Behind}
use Rattle.nys_wire.proofs.makers.pass_tags.Given as goal

-- some that were passed and those that are still read are the whole
abbrev pub invariant-loop : goal.invariant-loop
invariant-loop l = Behind tag_at (λ t. t.0 + 1) l.count l.counter l.least l.fields l.fn.fields

use Rattle.std.proofs.Common.{◌<◌, arith}
use Rattle.std.proofs.lemmas.List.Elements.{All-from_get_or}
use Rattle.nys_wire.proofs.fields.each_below.Goals as goal

pub returns-clause-below : goal.returns-clause-below
returns-clause-below c = All-from_get_or (λ b. b < 256) c.args.field.now 0 (λ i lt. omega (arith, c.type_inv.field i))

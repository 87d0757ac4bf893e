use Rattle.std.proofs.Common.{Ok, Err, arith}
use Rattle.nys_wire.proofs.Wholes.{only_whole, whole_takes}
use Rattle.nys_wire.proofs.records.RecordRef.read.Goals as goal

-- the bytes are the spelling of what was read
pub invariant_of-result : goal.invariant_of-result
invariant_of-result c = (whole_takes c.args.bytes.now _ (λ i. omega (arith, c.type_inv.bytes i)) c.in-Ok.ensures).1

pub returns-in-Ok-clause-found : goal.returns-in-Ok-clause-found
returns-in-Ok-clause-found c = whole_takes c.args.bytes.now _ (λ i. omega (arith, c.type_inv.bytes i)) c.in-Ok.ensures

pub returns-in-Ok-clause-only : goal.returns-in-Ok-clause-only
returns-in-Ok-clause-only c = only_whole c.args.bytes.now (Ok _) c.in-Ok.ensures

pub returns-in-Err-clause-only : goal.returns-in-Err-clause-only
returns-in-Err-clause-only c = only_whole c.args.bytes.now (Err c.in-Err.fault) c.in-Err.ensures

use Rattle.nys_wire.proofs.Wholes.{one_record}
use Rattle.nys_wire.proofs.decoding.records_differ.Goals as goal

pub returns : goal.returns
returns c = one_record

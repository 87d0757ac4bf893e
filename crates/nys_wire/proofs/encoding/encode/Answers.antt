use Rattle.std.proofs.Common.{◌∙◌}
use Rattle.nys_wire.proofs.Lengths.{few_bytes}
use Rattle.nys_wire.proofs.encoding.encode.Goals as goal

-- the bytes are those of the record
pub returns-clause-size : goal.returns-clause-size
returns-clause-size c = few_bytes c.args.r.now c.new-out.result _ c.in_ok-put_record.ensures.formed c.new-out.ensures (c.into_bytes.ensures ∙ c.in_ok-put_record.ensures.ok)

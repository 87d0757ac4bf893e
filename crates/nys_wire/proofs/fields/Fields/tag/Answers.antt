use Rattle.nys_wire.proofs.Places.{bytes_lie}
use Rattle.nys_wire.proofs.fields.Fields.tag.Goals as goal

-- what was read has the bytes of a tag
pub returns-in-Err : goal.returns-in-Err
returns-in-Err c = absurd (c.in-Err.ensures.1 (bytes_lie 32 _ _ _ c.in_ok-field.ensures.lies).size)

use Rattle.std.proofs.Common.{◌∙◌}
use Rattle.nys_wire.specs.Shown.{record_shown}
use Rattle.nys_wire.proofs.Places.{first_part, part_fits, parts_lie}
use Rattle.nys_wire.proofs.records.RecordRef.statement_bytes.Goals as goal

pub split_at-requires : goal.split_at-requires
split_at-requires c = (parts_lie (record_shown (c.self.inside.statement, c.self.inside.makers)) c.self.inside.bytes.now c.self.invariant).some

pub split_at-requires-2 : goal.split_at-requires-2
split_at-requires-2 c = part_fits _ _ _ _ (c.split_at.ensures.back ∙ (parts_lie (record_shown (c.self.inside.statement, c.self.inside.makers)) c.self.inside.bytes.now c.self.invariant).parts) c.size.ensures.size

-- the statement stands behind the magic and the version
pub returns-clause-spelled : goal.returns-clause-spelled
returns-clause-spelled c = rw (← c.self.view_is) (c.split_at-2.ensures.front ∙ first_part _ _ _ _ (c.split_at.ensures.back ∙ (parts_lie (record_shown (c.self.inside.statement, c.self.inside.makers)) c.self.inside.bytes.now c.self.invariant).parts) c.size.ensures.size)

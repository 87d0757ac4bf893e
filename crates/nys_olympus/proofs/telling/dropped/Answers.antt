use Rattle.std.proofs.Common.{refl}
use Rattle.nys_olympus.proofs.Told.{no_members}
use Rattle.nys_olympus.proofs.telling.dropped.Goals as goal

-- nothing was made, sent or accepted
pub returns : goal.returns
returns c = rw (c.new.ensures.items, c.new-2.ensures.items, c.new-3.ensures.items, no_members c.empty.result c.empty.ensures) refl

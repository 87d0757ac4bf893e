use Rattle.std.proofs.Common.{refl, ◌∙◌}
use Rattle.nys_olympus.proofs.Told.{no_members}
use Rattle.nys_olympus.proofs.telling.done.Goals as goal

-- nothing was accepted
pub returns : goal.returns
returns c = c.handled.ensures ∙ rw (no_members c.empty.result c.empty.ensures) refl

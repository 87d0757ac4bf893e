use Rattle.std.proofs.Common.{◌≡◌, take}
use Rattle.nys_stmt.proofs.makers.copies.Given as goal

-- those so far are copied
abbrev pub invariant-loop-tags : goal.invariant-loop-tags
invariant-loop-tags l = l.held.items ≡ take l.tags-index l.makers

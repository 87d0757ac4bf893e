use Rattle.std.proofs.Common.{◌≡◌, ◌++◌}
use Rattle.std.specs.Vec.Iter.{into_iter_items}
use Rattle.nys_olympus.proofs.kept.append.Given as goal

-- what is kept and what is left are all
abbrev pub invariant-loop-content : goal.invariant-loop-content
invariant-loop-content l = l.held.items ++ into_iter_items l.content-iterator ≡ l.fn.held.items ++ l.fn.contents.items

use Rattle.std.proofs.Common.{◌≡◌, ◌++◌}
use Rattle.nys_wire.proofs.opening.LengthsRef.owned.Given as goal

-- those that were taken and those that are left are all
abbrev pub invariant-loop-member : goal.invariant-loop-member
invariant-loop-member l = l.lengths ++ l.member-iterator ≡ l.fn.self

use Rattle.std.proofs.Common.{◌≡◌, ◌++◌}
use Rattle.nys_wire.proofs.makers.MakerIter.owned.Given as goal

-- those that were taken and those that are left are all
abbrev pub invariant-loop-maker : goal.invariant-loop-maker
invariant-loop-maker l = l.makers ++ l.maker-iterator ≡ l.fn.self

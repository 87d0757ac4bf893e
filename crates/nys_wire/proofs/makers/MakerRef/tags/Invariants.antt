use Rattle.std.proofs.Common.{◌≡◌, ◌++◌}
use Rattle.nys_wire.proofs.makers.MakerRef.tags.Given as goal

-- those that were taken and those that are left are all
abbrev pub invariant-loop-receiver : goal.invariant-loop-receiver
invariant-loop-receiver l = l.tags ++ l.receiver-iterator ≡ l.fn.self.tags

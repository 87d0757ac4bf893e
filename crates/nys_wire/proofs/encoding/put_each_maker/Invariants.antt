use Rattle.std.proofs.Common.{◌≡◌, ◌++◌, drop, take, All}
use Rattle.std.specs.List.{flat_map}
use Rattle.nys_stmt.specs.Records.{IsMaker, maker_bytes}
use Rattle.nys_wire.proofs.encoding.put_each_maker.Given as goal

-- what is written, and what is left to write, is all of it; what is written are makers
abbrev pub invariant-loop-i : goal.invariant-loop-i
invariant-loop-i l = (l.out ++ flat_map maker_bytes (drop l.i l.makers) ≡ l.fn.out ++ flat_map maker_bytes l.makers) × All IsMaker (take l.i l.makers)

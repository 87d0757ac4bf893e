use Rattle.std.proofs.Common.{◌≡◌, ◌++◌, drop, take, All}
use Rattle.std.specs.List.{flat_map}
use Rattle.nys_stmt.specs.Records.{IsTag, tag_bytes}
use Rattle.nys_wire.proofs.encoding.put_each_tag.Given as goal

-- what is written, and what is left to write, is all of it; what is written are tags
abbrev pub invariant-loop-i : goal.invariant-loop-i
invariant-loop-i l = (l.out ++ flat_map tag_bytes (drop l.i l.tags) ≡ l.fn.out ++ flat_map tag_bytes l.tags) × All IsTag (take l.i l.tags)

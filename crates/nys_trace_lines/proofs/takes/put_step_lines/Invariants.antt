-- the text so far and the lines that are left make the whole text
use Rattle.std.proofs.Common.{◌≡◌, ◌++◌, drop}
use Rattle.std.specs.List.{flat_map}
use Rattle.nys_trace_lines.specs.TraceLines.{step_line}
use Rattle.nys_trace_lines.proofs.takes.put_step_lines.Given as goal

abbrev pub invariant-loop-take : goal.invariant-loop-take
invariant-loop-take l = l.out ++ flat_map step_line (drop l.take-index l.takes) ≡ l.fn.out ++ flat_map step_line l.takes

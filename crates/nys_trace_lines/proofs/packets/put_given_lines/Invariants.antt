-- the text so far and the lines that are left make the whole text
use Rattle.std.proofs.Common.{◌≡◌, ◌++◌, drop}
use Rattle.std.specs.List.{flat_map}
use Rattle.nys_trace_lines.specs.TraceLines.{given_line}
use Rattle.nys_trace_lines.proofs.packets.put_given_lines.Given as goal

abbrev pub invariant-loop-given : goal.invariant-loop-given
invariant-loop-given l =
    l.out ++ flat_map given_line (drop l.given-index l.injected) ≡ l.fn.out ++ flat_map given_line l.injected

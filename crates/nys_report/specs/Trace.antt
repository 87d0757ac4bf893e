-- The trace of a world: what was sent, given and taken, then the report.
use Rattle.std.specs.Prelude.{ℕ, ◌++◌, List}
use Rattle.nys_printed.specs.Report.{report}
use Rattle.nys_rules.specs.World.{Setting, World}
use Rattle.nys_trace_lines.specs.TraceLines.{injected_text, packets_text, takes_text}

-- the trace, whose last part is the report of the same world
unfoldable pub trace : {S : Type 0} → Setting S → World → List ℕ
trace setting w =
    packets_text w.pool ++ (injected_text w.injected ++ (takes_text w.takes ++ report setting w))

-- the text so far and the lines that are left make the whole text
use Rattle.std.proofs.Common.{◌≡◌, ◌-◌, ◌++◌}
use Rattle.std.specs.List.{range_with_len}
use Rattle.nys_node.specs.Means.{Known}
use Rattle.nys_config.specs.Scopes.{scope_of}
use Rattle.nys_printed.specs.Report.{replicas_of}
use Rattle.nys_report.specs.Parts.{log_gives}
use Rattle.nys_report.proofs.guards.put_replicas_below.Given as goal

abbrev pub invariant-loop-h : goal.invariant-loop-h
invariant-loop-h g l =
    let scope = scope_of (g.P.Protocol.rules l.cx.protocol) l.cx in
    Known scope l.node (λ v.
    l.out ++ replicas_of scope (log_gives scope v) l.g v (range_with_len l.h (l.hosts - l.h))
    ≡ l.fn.out ++ replicas_of scope (log_gives scope v) l.g v (range_with_len 0 l.hosts))

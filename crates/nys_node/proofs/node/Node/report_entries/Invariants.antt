use Rattle.std.proofs.Common.{◌≡◌, ◌≤◌}
use Rattle.nys_node.specs.Means.{Known}
use Rattle.nys_config.specs.Scopes.{scope_of}
use Rattle.nys_node.specs.Told.{reports_from, told}
use Rattle.nys_rules.specs.Ending.{entry_reports}
use Rattle.nys_rules.specs.Packets.{joined}
use Rattle.nys_node.proofs.node.Node.report_entries.Given as goal

-- with the entries left, all are reported that can be told, and those left are kept
abbrev pub invariant-loop-slot : goal.invariant-loop-slot
invariant-loop-slot g l = let scope = scope_of (g.P.Protocol.rules l.cx.protocol) l.cx in
    Known scope l.self (λ v. (joined l.out (told scope v (reports_from v l.h l.slot)) ≡ joined l.fn.out (told scope v (entry_reports v l.h)))
    × (v.kept_from l.h ≤ l.slot))

use Rattle.std.proofs.Common.{◌≡◌}
use Rattle.std.specs.Prelude.{filter, flat_map}
use Rattle.std.specs.List.{range_with_len}
use Rattle.nys_node.specs.Means.{Known}
use Rattle.nys_config.specs.Scopes.{scope_of}
use Rattle.nys_node.specs.Told.{told}
use Rattle.nys_rules.specs.Ending.{testimony}
use Rattle.nys_rules.specs.Packets.{joined}
use Rattle.nys_rules.specs.View.{is_live}
use Rattle.nys_node.proofs.node.Node.report_all.Given as goal

-- the hosts before this one are reported
abbrev pub invariant-loop-h : goal.invariant-loop-h
invariant-loop-h g l = let scope = scope_of (g.P.Protocol.rules l.cx.protocol) l.cx in
    Known scope l.self (λ v. l.out ≡ joined l.fn.out (told scope v (flat_map (testimony v) (filter (is_live scope v) (range_with_len 0 l.h)))))

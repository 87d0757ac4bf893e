use Rattle.std.proofs.Common.{◌≡◌}
use Rattle.nys_node.specs.Dues.{hosts_due}
use Rattle.nys_node.specs.Means.{Known}
use Rattle.nys_config.specs.Scopes.{scope_of}
use Rattle.nys_rules.specs.Rules.{due}
use Rattle.nys_node.proofs.node.Node.due.Given as goal

-- what is due from here on is due
abbrev pub invariant-loop-h : goal.invariant-loop-h
invariant-loop-h g l = let scope = scope_of (g.P.Protocol.rules l.cx.protocol) l.cx in
    Known scope l.self (λ v. hosts_due scope v l.h ≡ due scope v)

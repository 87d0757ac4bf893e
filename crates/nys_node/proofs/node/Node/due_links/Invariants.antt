use Rattle.std.proofs.Common.{◌≡◌, ◌≤◌, ◌-◌}
use Rattle.nys_hosts.specs.declared.limits.TheConstants.{MAX_HOSTS}
use Rattle.nys_node.specs.Dues.{links_due}
use Rattle.nys_node.specs.Means.{Known}
use Rattle.nys_config.specs.Scopes.{scope_of}
use Rattle.nys_node.proofs.node.Node.due_links.Given as goal

-- what is due of the links from here on is due of all
abbrev pub invariant-loop-p : goal.invariant-loop-p
invariant-loop-p g l = let scope = scope_of (g.P.Protocol.rules l.cx.protocol) l.cx in
    (l.from ≤ MAX_HOSTS) × Known scope l.self (λ v. links_due scope v l.h l.from ≡ links_due scope v l.h 0)

-- how many senders are left
abbrev pub decreases-loop-p : goal.decreases-loop-p
decreases-loop-p g l = MAX_HOSTS - l.from

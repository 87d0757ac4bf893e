use Rattle.std.proofs.Common.{◌≡◌, ◌&&◌, ℕ, nat_lt}
use Rattle.std.specs.Prelude.{is_some}
use Rattle.nys_hosts.specs.Sets.{has}
use Rattle.nys_node.specs.Means.{Known}
use Rattle.nys_config.specs.Scopes.{scope_of}
use Rattle.nys_rules.specs.Heads.{head}
use Rattle.nys_node.proofs.node.Node.links_with_heads.Given as goal

-- the links from hosts before this one that have a head
abbrev pub invariant-loop-p : goal.invariant-loop-p
invariant-loop-p g l = let scope = scope_of (g.P.Protocol.rules l.cx.protocol) l.cx in
    Known scope l.self (λ v. (p : ℕ) → has l.links p ≡ (nat_lt p l.p && is_some (head scope v p l.h)))

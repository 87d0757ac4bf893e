use Rattle.nys_node.specs.Linking.{links_from, with_begun}
use Rattle.nys_node.specs.Means.{Means}
use Rattle.nys_config.specs.Scopes.{scope_of}
use Rattle.nys_rules.specs.View.{View}
use Rattle.nys_node.proofs.node.Node.begin_links.Given as goal

-- the links from the hosts before this one began
abbrev pub invariant-loop-p : goal.invariant-loop-p
invariant-loop-p g l = let scope = scope_of (g.P.Protocol.rules l.cx.protocol) l.cx in
    (v : View) → Means scope l.fn.self v → Means scope l.self (with_begun scope (links_from l.p) v)

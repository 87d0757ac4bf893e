use Rattle.nys_node.specs.Linking.{links_to, with_begun}
use Rattle.nys_node.specs.Means.{Means}
use Rattle.nys_config.specs.Scopes.{scope_of}
use Rattle.nys_rules.specs.View.{View}
use Rattle.nys_node.proofs.node.Node.begin_links_from.Given as goal

-- the links to the hosts before this one began
abbrev pub invariant-loop-h : goal.invariant-loop-h
invariant-loop-h g l = let scope = scope_of (g.P.Protocol.rules l.cx.protocol) l.cx in
    (v : View) → Means scope l.fn.self v → Means scope l.self (with_begun scope (links_to l.p l.h) v)

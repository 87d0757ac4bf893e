use Rattle.std.proofs.Common.{rules, ◌+◌, subst}
use Rattle.nys_node.specs.Linking.{links_to, one_link, with_begun}
use Rattle.nys_node.specs.Means.{Means}
use Rattle.nys_config.specs.Scopes.{scope_of}
use Rattle.nys_node.proofs.LinkLemmas.{means_both, means_none}
use Rattle.nys_node.proofs.LinkTests.{none_to, one_more_to, most_is}
use Rattle.nys_node.proofs.node.Node.begin_links_from.Goals as goal

-- no link began
pub loop-h-init : goal.loop-h-init
loop-h-init g c = λ v m.
    means_none (scope_of (g.P.Protocol.rules c.args.cx.now.protocol) c.args.cx.now) c.args.self.now v (links_to c.args.p 0) (none_to c.args.p) m

-- one link more began
pub loop-h-preserved : goal.loop-h-preserved
loop-h-preserved g c = λ v m.
    let scope = scope_of (g.P.Protocol.rules c.args.cx.now.protocol) c.args.cx.now in
    means_both scope c.begin_link.new.self v (links_to c.args.p c.loop-h.h) (one_link c.args.p c.loop-h.h) (links_to c.args.p (c.loop-h.h + 1))
    (λ q h below under. one_more_to c.args.p c.loop-h.h q h) (c.begin_link.ensures (with_begun scope (links_to c.args.p c.loop-h.h) v) (c.loop-h.invariant v m))

-- all did
pub returns : goal.returns
returns g c = λ v m.
    let scope = scope_of (g.P.Protocol.rules c.args.cx.now.protocol) c.args.cx.now in
    subst (λ n. Means scope c.loop-h.self (with_begun scope (links_to c.args.p n) v)) (most_is _ (search rules) (search rules)) (c.loop-h.invariant v m)

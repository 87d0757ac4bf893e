use Rattle.std.proofs.Common.{rules, ◌+◌}
use Rattle.nys_node.specs.Linking.{links_from, links_to, with_begun}
use Rattle.nys_config.specs.Scopes.{scope_of}
use Rattle.nys_node.proofs.LinkLemmas.{means_all, means_both, means_none}
use Rattle.nys_node.proofs.LinkTests.{most_is, none_from, one_more_from}
use Rattle.nys_node.proofs.node.Node.begin_links.Goals as goal

-- no link began
pub loop-p-init : goal.loop-p-init
loop-p-init g c = λ v m.
    means_none (scope_of (g.P.Protocol.rules c.args.cx.now.protocol) c.args.cx.now) c.args.self.now v (links_from 0) none_from m

-- the links from one host more began
pub loop-p-preserved : goal.loop-p-preserved
loop-p-preserved g c = λ v m.
    let scope = scope_of (g.P.Protocol.rules c.args.cx.now.protocol) c.args.cx.now in
    means_both scope c.begin_links_from.new.self v (links_from c.loop-p.p) (links_to c.loop-p.p 32) (links_from (c.loop-p.p + 1))
    (λ q h below under. one_more_from c.loop-p.p q h under) (c.begin_links_from.ensures (with_begun scope (links_from c.loop-p.p) v) (c.loop-p.invariant v m))

-- all did
pub returns : goal.returns
returns g c = λ v m.
    means_all (scope_of (g.P.Protocol.rules c.args.cx.now.protocol) c.args.cx.now) c.loop-p.self v c.loop-p.p (most_is _ (search rules) (search rules))
    (c.loop-p.invariant v m)

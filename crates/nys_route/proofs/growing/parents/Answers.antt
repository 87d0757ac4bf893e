-- After as many rounds as hosts the tree is whole.
use Rattle.std.proofs.Common.{rules, ◌≡◌, ◌+◌, refl, subst}
use Rattle.nys_graph.specs.Links.{linked_in}
use Rattle.nys_route.specs.Growth.{IsGrown}
use Rattle.nys_route.proofs.GrowthLemmas.{grown_all, grown_exact, grown_more}
use Rattle.nys_route.proofs.growing.parents.Goals as goal

pub loop-n-preserved : goal.loop-n-preserved
loop-n-preserved c =
    grown_more c.args.graph.now.hosts (linked_in c.args.graph.now.rows) c.args.root c.loop-n._n (c.loop-n._n + 1) c.loop-n.grown c.farther-grown.result
    c.hosts-n-end.ensures.shape refl c.loop-n.invariant c.farther-grown.ensures

pub returns-clause-exact : goal.returns-clause-exact
returns-clause-exact c =
    let hosts = c.args.graph.now.hosts in
    let linked = linked_in c.args.graph.now.rows in
    let same : c.loop-n._n ≡ c.args.graph.now.hosts = search rules in
    grown_exact hosts linked c.hosts-n-end.ensures.shape c.args.root c.loop-n.grown c.requires
    (subst (λ n. IsGrown hosts linked c.args.root n c.loop-n.grown) same c.loop-n.invariant)

pub returns-clause-value : goal.returns-clause-value
returns-clause-value c =
    let hosts = c.args.graph.now.hosts in
    let linked = linked_in c.args.graph.now.rows in
    let same : c.loop-n._n ≡ c.args.graph.now.hosts = search rules in
    grown_all hosts linked c.hosts-n-end.ensures.shape c.args.root c.loop-n.grown c.requires
    (subst (λ n. IsGrown hosts linked c.args.root n c.loop-n.grown) same c.loop-n.invariant)

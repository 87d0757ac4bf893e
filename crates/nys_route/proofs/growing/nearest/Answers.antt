-- The first that passes is the lowest.
use Rattle.std.proofs.Common.{rules, ◌<◌, ◌&&◌, sym, ◌∙◌}
use Rattle.nys_graph.specs.Links.{linked_in}
use Rattle.nys_route.specs.Growth.{is_reached}
use Rattle.nys_route.proofs.LowestLemmas.{lowest_first, lowest_next}
use Rattle.nys_route.proofs.growing.nearest.Goals as goal

pub returns-then-is_near : goal.returns-then-is_near
returns-then-is_near c =
    let inside : c.loop-p.p < c.args.graph.now.hosts = search rules in
    sym (lowest_first (λ q. linked_in c.args.graph.now.rows c.args.h q && is_reached c.args.before.now q) c.args.graph.now.hosts c.loop-p.p inside
    (sym c.is_near.ensures ∙ c.if-is_near.true) c.loop-p.invariant)

pub loop-p-preserved : goal.loop-p-preserved
loop-p-preserved c =
    lowest_next (λ q. linked_in c.args.graph.now.rows c.args.h q && is_reached c.args.before.now q) c.loop-p.p c.loop-p.invariant
    (sym c.is_near.ensures ∙ c.if-is_near.false)

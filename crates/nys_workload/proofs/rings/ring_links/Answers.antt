-- one link more
use Rattle.std.proofs.Common.{[], ◌∷◌, ◌++◌, ap, ◌∙◌}
use Rattle.nys_workload.proofs.RingLemmas.{links_on}
use Rattle.nys_workload.proofs.rings.ring_links.Goals as goal
use Rattle.nys_workload.specs.Rings.{link_from}

pub loop-h-preserved : goal.loop-h-preserved
loop-h-preserved c =
    links_on (link_from c.args.hosts) c.loop-h.h c.args.hosts c.loop-h.links.items c.push.new.links.items c.loop-h-test.true
    (c.in_ok-push.ensures ∙ ap (λ link. c.loop-h.links.items ++ link ∷ []) c.link_from.ensures)
    ∙ c.loop-h.invariant

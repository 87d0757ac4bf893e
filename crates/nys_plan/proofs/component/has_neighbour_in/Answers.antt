-- The neighbours in the set are the set's hosts that are linked with `g`.
use Rattle.std.proofs.Common.{ap, ◌∙◌, ◌&&◌, nat_lt}
use Rattle.nys_hosts.specs.Sets.{has}
use Rattle.nys_hosts.proofs.CountLemmas.{hosts_with-same}
use Rattle.nys_graph.specs.Links.{linked_in}
use Rattle.nys_plan.specs.Walks.{touches}
use Rattle.nys_plan.proofs.component.has_neighbour_in.Goals as goal

pub returns : goal.returns
unfolding touches
returns c =
    ap (nat_lt 0) (c.count.ensures.hosts
    ∙ hosts_with-same (has c.meet.result)
    (λ p. linked_in c.args.graph.now.rows c.args.g p && has c.args.set.now p)
    (λ p below. c.meet.ensures p ∙ ap (λ x. x && has c.args.set.now p)
    (c.of_mask-neighbours.ensures p ∙ c.neighbours.ensures p)))

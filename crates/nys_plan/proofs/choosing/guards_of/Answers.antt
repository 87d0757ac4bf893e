-- The component is what is reached, and its greatest threshold says how many are needed; its hosts and
-- then the others are chosen in order, and the host.
use Rattle.std.proofs.Common.{◌≡◌, true, ◌+◌, ◌*◌, ap, subst, ◌∙◌, ◌||◌, ◌==◌}
use Rattle.nys_hosts.specs.Sets.{has}
use Rattle.nys_graph.specs.Links.{linked_in}
use Rattle.nys_guards.specs.Good.{threshold_in}
use Rattle.nys_plan.specs.Planned.{IsFirst, order_of}
use Rattle.nys_plan.specs.Walks.{IsReached}
use Rattle.nys_plan.proofs.GreatestLemmas.{greatest_of}
use Rattle.nys_plan.proofs.choosing.guards_of.Goals as goal

pub returns : goal.returns
returns c =
    let near = has c.component-near.result in
    let greatest = c.greatest_in.result in
    let all = subst (λ n. IsFirst (3 * greatest + 1) (order_of n near) (has c.choose_far-chosen.result))
    c.hosts-2.ensures.count c.choose_far-chosen.ensures in
    record {
      component = near;
      reached = c.component-near.ensures;
      greatest = greatest;
      most = greatest_of (threshold_in c.args.t.now) (λ g. near g ≡ true)
          (IsReached (linked_in c.args.graph.now.rows) c.args.h) greatest
          (λ g. (c.component-near.ensures g).0) (λ g. (c.component-near.ensures g).1) c.greatest_in.ensures.most;
      chosen = λ g. c.with.ensures g ∙ ap (λ b. b || (c.args.h == g)) (all.same g);
    }

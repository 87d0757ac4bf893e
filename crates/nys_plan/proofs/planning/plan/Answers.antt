-- The greatest threshold of all decides whether there are enough hosts. Neighbours are of one component,
-- and share its first hosts.
use Rattle.std.proofs.Common.{arith}
use Rattle.nys_graph.specs.Links.{linked_in}
use Rattle.nys_guards.specs.Good.{guards_in, threshold_in}
use Rattle.nys_plan.proofs.GoodLemmas.{good_planned}
use Rattle.nys_plan.proofs.planning.plan.Goals as goal

pub returns-clause-good : goal.returns-clause-good
returns-clause-good c =
    good_planned c.args.graph.now.hosts (linked_in c.args.graph.now.rows) (threshold_in c.args.t.now)
    c.args.credit (guards_in c.all_guards-guards.result) c.args.graph.now.shape
    (λ h below. omega (
      arith,
      c.greatest_below.ensures.most.bound h (omega (arith, below, c.hosts-n.ensures.count)),
      c.if-n-need.false,
      c.hosts-n.ensures.count,
    ))
    c.in_default.ensures.none c.all_guards-guards.ensures.planned

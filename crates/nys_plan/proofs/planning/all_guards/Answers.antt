-- The row of `h` has its guards, and the rows before it stay.
use Rattle.std.proofs.Common.{refl, arith, ◌∙◌, length-set}
use Rattle.nys_graph.specs.Links.{linked_in}
use Rattle.nys_guards.specs.Good.{threshold_in}
use Rattle.nys_plan.proofs.GoodLemmas.{planned_set, rows_none, rows_set}
use Rattle.nys_plan.proofs.planning.all_guards.Goals as goal

pub loop-h-init : goal.loop-h-init
loop-h-init c = record {
  long = refl;
  planned = λ k below. absurd (omega (arith, below));
  empty = rows_none 32 c.empty-guards.result c.empty-guards.ensures;
}

pub loop-h-preserved : goal.loop-h-preserved
loop-h-preserved c = record {
  long = length-set c.loop-h.guards c.loop-h.h c.guards_of.result ∙ c.loop-h.invariant.long;
  planned = planned_set c.args.graph.now.hosts
      (linked_in c.args.graph.now.rows) (threshold_in c.args.t.now) c.loop-h.guards c.loop-h.h
      c.guards_of.result (omega (
        arith,
        c.loop-h.invariant.long,
        c.loop-h-test.true,
        c.hosts-h-end.ensures.shape.few,
        c.hosts-h-end.ensures.count,
      ))
      c.loop-h.invariant.planned c.guards_of.ensures;
  empty = rows_set c.loop-h.guards c.loop-h.h c.guards_of.result c.loop-h.invariant.empty;
}

-- no host so far has more neighbours than credit
use Rattle.nys_graph.specs.Links.{linked_in}
use Rattle.nys_plan.specs.Refused.{AreFew}
use Rattle.nys_plan.proofs.planning.crowded.Given as goal

abbrev pub invariant-loop-h : goal.invariant-loop-h
invariant-loop-h l = AreFew l.h (linked_in l.graph.rows) l.credit

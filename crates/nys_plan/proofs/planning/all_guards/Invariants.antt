-- the hosts so far have the guards of the rule, and the others none
use Rattle.std.proofs.Common.{◌≡◌, ℕ, ◌<◌, length}
use Rattle.nys_graph.specs.Links.{linked_in}
use Rattle.nys_guards.specs.Good.{guards_in, threshold_in}
use Rattle.nys_plan.specs.Planned.{AreOfHostsBelow, IsPlanned}
use Rattle.nys_plan.proofs.planning.all_guards.Given as goal

abbrev pub invariant-loop-h : goal.invariant-loop-h
invariant-loop-h l = record {
  long : length l.guards ≡ 32;
  planned : (k : ℕ) → k < l.h → IsPlanned l.graph.hosts (linked_in l.graph.rows) (threshold_in l.t) k
      (guards_in l.guards k);
  empty : AreOfHostsBelow l.h (guards_in l.guards);
}

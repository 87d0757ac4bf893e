-- the hosts below `h` have their parents of one round more, and the others those that they had
use Rattle.std.proofs.Common.{◌≡◌, ℕ, ◌<◌, ◌≤◌, if◌then◌else◌, None, length}
use Rattle.std.specs.Prelude.{slice_index_or}
use Rattle.nys_graph.specs.Links.{linked_in}
use Rattle.nys_route.specs.Growth.{is_reached, nearest_in, parent_in}
use Rattle.nys_route.proofs.growing.all_parents.Given as goal

abbrev pub invariant-loop-h : goal.invariant-loop-h
invariant-loop-h l = record {
  long : length l.after ≡ 32;
  done : (k : ℕ) → k < l.h
      → slice_index_or l.after k None ≡ (if is_reached l.before k then parent_in l.before k else nearest_in l.graph.hosts (linked_in l.graph.rows) l.before k);
  rest : (k : ℕ) → l.h ≤ k → slice_index_or l.after k None ≡ parent_in l.before k;
}

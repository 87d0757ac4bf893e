-- the hosts below `h` are reached that are in one round more
use Rattle.std.proofs.Common.{◌≡◌, ℕ, ◌<◌, ◌||◌, false, length}
use Rattle.std.specs.Prelude.{is_some, slice_index_or}
use Rattle.nys_graph.specs.Links.{linked_in}
use Rattle.nys_route.specs.Growth.{is_reached, nearest_in}
use Rattle.nys_route.proofs.growing.all_reached.Given as goal

abbrev pub invariant-loop-h : goal.invariant-loop-h
invariant-loop-h l = record {
  long : length l.after ≡ 32;
  done : (k : ℕ) → k < l.h
      → slice_index_or l.after k false ≡ (is_reached l.before k || is_some (nearest_in l.graph.hosts (linked_in l.graph.rows) l.before k));
}

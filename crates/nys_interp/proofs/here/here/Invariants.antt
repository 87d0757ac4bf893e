use Rattle.std.proofs.Common.{◌≡◌}
use Rattle.std.specs.Prelude.{filter}
use Rattle.std.specs.List.{range_with_len}
use Rattle.nys_graph.specs.Links.{linked_in}
use Rattle.nys_interp.proofs.here.here.Given as goal

-- the hosts so far are the neighbours below `q`
abbrev pub invariant-loop-q : goal.invariant-loop-q
invariant-loop-q l = l.near ≡ filter (linked_in l.fn.graph.rows l.h) (range_with_len 0 l.q)

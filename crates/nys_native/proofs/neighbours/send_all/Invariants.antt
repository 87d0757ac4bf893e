-- the effects so far are the sends to the neighbours below `p`
use Rattle.std.proofs.Common.{◌≡◌, ◌++◌, ◌&&◌}
use Rattle.std.specs.Prelude.{filter}
use Rattle.std.specs.List.{range_with_len}
use Rattle.nys_graph.specs.Links.{linked_in}
use Rattle.nys_native.specs.Neighbours.{is_not, sends_to}
use Rattle.nys_native.proofs.neighbours.send_all.Given as goal

abbrev pub invariant-loop-p : goal.invariant-loop-p
invariant-loop-p l =
    l.effects.items ≡ l.fn.effects.items ++ sends_to l.payload (filter (λ q. linked_in l.fn.graph.rows l.h q && is_not l.from q) (range_with_len 0 l.p))

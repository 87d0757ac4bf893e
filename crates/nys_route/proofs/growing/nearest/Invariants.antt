-- no neighbour below `p` is reached
use Rattle.std.proofs.Common.{◌≡◌, ◌&&◌, None}
use Rattle.nys_graph.specs.Links.{linked_in}
use Rattle.nys_route.specs.Growth.{is_reached}
use Rattle.nys_route.specs.Parents.{lowest}
use Rattle.nys_route.proofs.growing.nearest.Given as goal

abbrev pub invariant-loop-p : goal.invariant-loop-p
invariant-loop-p l = lowest (λ q. linked_in l.graph.rows l.h q && is_reached l.before q) l.p ≡ None

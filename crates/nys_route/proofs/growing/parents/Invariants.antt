-- the tree has grown by as many rounds as were made
use Rattle.nys_graph.specs.Links.{linked_in}
use Rattle.nys_route.specs.Growth.{IsGrown}
use Rattle.nys_route.proofs.growing.parents.Given as goal

abbrev pub invariant-loop-n : goal.invariant-loop-n
invariant-loop-n l = IsGrown l.graph.hosts (linked_in l.graph.rows) l.root l._n l.grown

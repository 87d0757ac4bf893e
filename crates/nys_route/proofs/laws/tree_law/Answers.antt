-- What the root is given goes down the tree.
use Rattle.nys_route.proofs.TreeLemmas.{multicasts_runs}
use Rattle.nys_route.proofs.laws.tree_law.Goals as goal

pub returns : goal.returns
returns c = record { runs = multicasts_runs }

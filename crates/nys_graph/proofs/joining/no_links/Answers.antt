-- Each row is the empty set.
use Rattle.nys_graph.proofs.LinkLemmas.{linked_in-none}
use Rattle.nys_graph.proofs.joining.no_links.Goals as goal

pub returns : goal.returns
returns c = linked_in-none c.empty.result c.empty.ensures 32

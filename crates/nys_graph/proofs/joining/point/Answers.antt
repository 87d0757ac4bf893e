-- The row of `from` has `to` beside what it had, and the other rows stay.
use Rattle.std.proofs.Common.{arith}
use Rattle.nys_graph.proofs.LinkLemmas.{linked_in-set}
use Rattle.nys_graph.proofs.joining.point.Goals as goal

pub returns : goal.returns
returns c =
    linked_in-set c.args.rows.now c.args.from c.args.to c.with.result (search arith) c.with.ensures

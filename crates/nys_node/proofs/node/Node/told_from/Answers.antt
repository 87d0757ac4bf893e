-- The first slot that is kept is the replica's.
use Rattle.std.proofs.Common.{arith}
use Rattle.nys_node.proofs.Knows.{none_kept, replica_keeps}
use Rattle.nys_node.proofs.RowLemmas.{table_read}
use Rattle.nys_node.proofs.node.Node.told_from.Goals as goal

-- the greater of the two
pub returns-in-Some : goal.returns-in-Some
returns-in-Some g c = λ scope v m.
    let keeps = replica_keeps scope c.args.self.now v m c.args.h _ c.in-Some.ensures.some in
    let base = table_read c.args.self.now.base v.base c.args.h 0 m.base c.requires.host in
    omega (arith, keeps, base, c.kept_from.ensures.kept, c.max.ensures)

-- of a host without a replica nothing is forgotten
pub returns-in-None : goal.returns-in-None
returns-in-None g c = λ scope v m.
    let none = none_kept scope c.args.self.now v m c.args.h c.requires.host c.in-None.ensures.none in
    let base = table_read c.args.self.now.base v.base c.args.h 0 m.base c.requires.host in
    omega (arith, none, base)

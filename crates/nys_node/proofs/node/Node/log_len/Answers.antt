use Rattle.std.proofs.Common.{refl}
use Rattle.nys_node.proofs.Knows.{no_log, replica_stands}
use Rattle.nys_node.proofs.node.Node.log_len.Goals as goal

-- the replica stands for the log
pub returns-in-Some : goal.returns-in-Some
returns-in-Some g c = λ scope v m.
    c.len.ensures.count scope.rules c.args.h (v.logs c.args.h) (replica_stands scope _ v m c.args.h _ c.in-Some.ensures.some)

-- no replica, no log
pub returns-in-None : goal.returns-in-None
returns-in-None g c = λ scope v m. rw (no_log scope _ v m c.args.h c.requires c.in-None.ensures.none) refl

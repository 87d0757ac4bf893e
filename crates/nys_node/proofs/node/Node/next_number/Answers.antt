use Rattle.nys_rules.specs.View.{next_number}
use Rattle.nys_node.proofs.Knows.{no_log, none_next, replica_stands}
use Rattle.nys_node.proofs.node.Node.next_number.Goals as goal

-- the replica stands for the log
pub returns-in-Some : goal.returns-in-Some
unfolding next_number
returns-in-Some g c = λ scope v m.
    c.next.ensures.number scope.rules c.args.h (v.logs c.args.h) (replica_stands scope _ v m c.args.h _ c.in-Some.ensures.some)

-- no replica, no log
pub returns-in-None : goal.returns-in-None
returns-in-None g c = λ scope v m. none_next scope v c.args.p c.args.h (no_log scope _ v m c.args.h c.requires.host c.in-None.ensures.none)

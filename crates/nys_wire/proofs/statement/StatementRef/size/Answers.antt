use Rattle.std.proofs.Common.{arith}
use Rattle.nys_stmt.specs.Spelling.{spelling}
use Rattle.nys_wire.proofs.statement.StatementRef.size.Goals as goal

-- the kind, the epoch and the body
pub returns-clause-size : goal.returns-clause-size
unfolding spelling
returns-clause-size c = omega (arith, c.size.ensures.size)

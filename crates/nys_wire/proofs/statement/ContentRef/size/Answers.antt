use Rattle.std.proofs.Common.{arith}
use Rattle.nys_stmt.specs.Spelling.{content_bytes}
use Rattle.nys_stmt.proofs.Sizes.{length-digest}
use Rattle.nys_wire.proofs.statement.ContentRef.size.Goals as goal

pub returns-in-External-clause-size : goal.returns-in-External-clause-size
unfolding content_bytes
returns-in-External-clause-size c = rw c.in-External.is (omega (arith, length-digest c.in-External.payload))

pub returns-in-Message-clause-size : goal.returns-in-Message-clause-size
unfolding content_bytes
returns-in-Message-clause-size c = rw c.in-Message.is (omega (arith, length-digest c.in-Message.payload))

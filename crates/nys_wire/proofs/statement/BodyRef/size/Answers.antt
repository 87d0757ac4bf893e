use Rattle.std.proofs.Common.{refl, arith}
use Rattle.nys_stmt.specs.Spelling.{body_bytes, length_bytes}
use Rattle.nys_stmt.proofs.Sizes.{length-digest, length-each}
use Rattle.nys_wire.proofs.Places.{length-length_bytes}
use Rattle.nys_wire.proofs.statement.BodyRef.size.Goals as goal

pub returns-in-Filled-clause-size : goal.returns-in-Filled-clause-size
unfolding body_bytes
returns-in-Filled-clause-size c = rw c.in-Filled.is (omega (arith, c.size.ensures.size))

pub returns-in-Attest-clause-size : goal.returns-in-Attest-clause-size
unfolding body_bytes
returns-in-Attest-clause-size c = rw c.in-Attest.is (omega (arith, length-digest c.in-Attest.payload))

pub returns-in-Ask-clause-size : goal.returns-in-Ask-clause-size
unfolding body_bytes
returns-in-Ask-clause-size c = rw c.in-Ask.is (refl)

pub returns-in-Wedge-clause-size : goal.returns-in-Wedge-clause-size
unfolding body_bytes
returns-in-Wedge-clause-size c = rw c.in-Wedge.is (refl)

pub returns-in-Frozen-clause-size : goal.returns-in-Frozen-clause-size
unfolding body_bytes
returns-in-Frozen-clause-size c = rw c.in-Frozen.is (refl)

pub returns-in-Open-clause-size : goal.returns-in-Open-clause-size
unfolding body_bytes
returns-in-Open-clause-size c = rw c.in-Open.is (omega (arith, c.len.ensures.size, length-each length_bytes 2 length-length_bytes c.in-Open.lengths))

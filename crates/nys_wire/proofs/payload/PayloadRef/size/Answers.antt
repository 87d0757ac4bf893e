use Rattle.std.proofs.Common.{refl, arith}
use Rattle.nys_stmt.specs.Spelling.{number_bytes, payload_bytes}
use Rattle.nys_stmt.proofs.Sizes.{length-each}
use Rattle.nys_wire.specs.InPlace.{numbers_in}
use Rattle.nys_wire.proofs.Payloads.{length-numbers_in}
use Rattle.nys_wire.proofs.payload.PayloadRef.size.Goals as goal

-- two bytes, and eight for each number
pub returns : goal.returns
unfolding payload_bytes number_bytes
returns c =
    let numbers = numbers_in c.self.inside.count c.self.inside.numbers.now in
    rw (← c.self.view_is) (omega (arith, c.self.invariant.size, length-numbers_in c.self.inside.count c.self.inside.numbers.now, length-each number_bytes 8 (λ z. refl) numbers))

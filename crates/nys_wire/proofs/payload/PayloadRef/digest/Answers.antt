use Rattle.std.proofs.Common.{sym}
use Rattle.nys_wire.proofs.Payloads.{digest_read, length-numbers_in, numbers_spelled}
use Rattle.nys_wire.proofs.payload.PayloadRef.digest.Goals as goal

-- the bytes that are hashed are those of the payload
pub returns : goal.returns
returns c =
    rw (← c.self.view_is) (sym (digest_read _ c.self.inside.count c.self.inside.numbers.now _ (length-numbers_in c.self.inside.count c.self.inside.numbers.now)
    (numbers_spelled c.self.inside.count c.self.inside.numbers.now c.self.invariant.size c.self.invariant.each) c.hashed.ensures))

-- the payload is there, and is taken by the system that has counted it
use Rattle.nys_source.proofs.system.System.receive.Goals as goal

pub returns-clause-taken : goal.returns-clause-taken
returns-clause-taken g c =
    rw c.in_ok-payload.ensures (rw (c.count.ensures.protocol, c.count.ensures.counted) at c.take_payload.ensures.taken)

use Rattle.std.proofs.Common.{refl, arith}
use Rattle.nys_wire.proofs.Numbers.{bytes_read, bytes_short}
use Rattle.nys_wire.proofs.fields.Fields.take.Goals as goal

-- too few bytes are left
pub returns-then-self-n-clause-lies : goal.returns-then-self-n-clause-lies
returns-then-self-n-clause-lies c = rw (c.short.ensures.place, c.short.ensures.kind) (bytes_short c.args.n _ _ (rw (← c.self.view_is) c.if-self-n.true) refl)

-- what stands in front is read
pub returns-clause-lies : goal.returns-clause-lies
returns-clause-lies c =
    rw (c.each_below.ensures.same, ← c.self.view_is) (bytes_read c.args.n _ _ _ c.split_at.ensures.front_len c.split_at.ensures.by_index.0 (omega (arith, c.self.invariant, c.split_at.ensures.back_len)))

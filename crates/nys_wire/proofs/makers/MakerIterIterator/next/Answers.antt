use Rattle.std.proofs.Common.{◌-◌, ◌+◌, arith}
use Rattle.nys_wire.specs.Reading.{maker_at}
use Rattle.nys_wire.proofs.Places.{goes_on, next_is, next_ok, none_left}
use Rattle.nys_wire.proofs.makers.MakerIterIterator.next.Goals as goal

-- none is left
pub returns-then-self-eq0-clause-steps : goal.returns-then-self-eq0-clause-steps
returns-then-self-eq0-clause-steps c =
    let none = none_left maker_at (λ t. t.maker + 1) c.self.inside.count c.self.inside.least c.self.inside.fields c.if-self-eq0.true in
    rw (← c.self.view_is) (none, none)

pub invariant_of-self : goal.invariant_of-self
invariant_of-self c = rw c.maker.ensures.maker (next_is maker_at (λ t. t.maker + 1) c.self.inside.count (c.self.inside.count - 1) c.self.inside.least c.self.inside.fields c.in-Ok.maker c.read.new.fields (omega (arith, c.if-self-eq0.false)) c.self.invariant c.in-Ok.ensures).others

-- what was read before is read again
pub invariant_of-self-in-Err : goal.invariant_of-self-in-Err
invariant_of-self-in-Err c = next_ok maker_at (λ t. t.maker + 1) c.self.inside.count (c.self.inside.count - 1) c.self.inside.least c.self.inside.fields _ (omega (arith, c.if-self-eq0.false)) c.self.invariant c.in-Err.ensures

pub returns-in-Ok-clause-steps : goal.returns-in-Ok-clause-steps
returns-in-Ok-clause-steps c = rw (← c.self.view_is, c.maker.ensures.maker) (next_is maker_at (λ t. t.maker + 1) c.self.inside.count (c.self.inside.count - 1) c.self.inside.least c.self.inside.fields c.in-Ok.maker c.read.new.fields (omega (arith, c.if-self-eq0.false)) c.self.invariant c.in-Ok.ensures).parts

pub returns-in-Ok-clause-goes : goal.returns-in-Ok-clause-goes
returns-in-Ok-clause-goes c =
    goes_on _ _ c.in-Ok.maker _ (rw (← c.self.view_is, c.maker.ensures.maker) (next_is maker_at (λ t. t.maker + 1) c.self.inside.count (c.self.inside.count - 1) c.self.inside.least c.self.inside.fields c.in-Ok.maker c.read.new.fields (omega (arith, c.if-self-eq0.false)) c.self.invariant c.in-Ok.ensures).parts)

pub returns-in-Err-clause-steps : goal.returns-in-Err-clause-steps
returns-in-Err-clause-steps c = next_ok maker_at (λ t. t.maker + 1) c.self.inside.count (c.self.inside.count - 1) c.self.inside.least c.self.inside.fields _ (omega (arith, c.if-self-eq0.false)) c.self.invariant c.in-Err.ensures

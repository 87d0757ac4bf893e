use Rattle.std.proofs.Common.{◌≡◌, ◌+◌, ℕ, Result, Ok, Err, IfOk, sym, subst, ap}
use Rattle.nys_carry.specs.Carrying.{Carries, with_offered}
use Rattle.nys_carry.proofs.CarryLemmas.{carries_sent, carries_unsent}
use Rattle.nys_carry.proofs.offering.offer.Goals as goal

-- the packet went
pub returns-in-Ok-clause-carries : goal.returns-in-Ok-clause-carries
returns-in-Ok-clause-carries g c = λ honest past all lost is carries.
    subst (λ n. Carries honest past (with_offered c.args.packet.now n all) (g.L.Links.told c.send.new.self) (g.L.Links.faults c.send.new.self)) lost
    (carries_sent c.in-Ok.field-0 honest past c.args.packet.now all (g.L.Links.told c.args.links.now) (g.L.Links.told c.send.new.self)
    (g.L.Links.faults c.args.links.now) (g.L.Links.faults c.send.new.self) is (rw (← c.packet.view_is, ← c.as_slice.ensures.value) c.in-Ok.ensures.frames)
    c.in-Ok.ensures.cause.later carries)

-- of a count that there is, what holds of the next number
of_count : {E : Type 0} (P : ℕ → Type 0) (lost : ℕ) (result : Result ℕ E) → IfOk result (λ more. more ≡ lost + 1) → P (lost + 1) → IfOk result P
of_count P lost (Ok more) is p = subst P (sym is) p
of_count P lost (Err e) is p = tt

-- the packet was refused
pub returns-in-Err-Failed-clause-carries : goal.returns-in-Err-Failed-clause-carries
returns-in-Err-Failed-clause-carries g c = λ honest past all lost is carries.
    of_count (λ n. Carries honest past (with_offered c.args.packet.now n all) (g.L.Links.told c.send.new.self) (g.L.Links.faults c.send.new.self))
    c.args.lost c.one_more.result c.one_more.ensures
    (subst (λ n. Carries honest past (with_offered c.args.packet.now (n + 1) all) (g.L.Links.told c.send.new.self) (g.L.Links.faults c.send.new.self)) lost
    (carries_unsent (Unit {0}) c.in-Err-Failed.field-0 honest past c.args.packet.now all (g.L.Links.told c.args.links.now) (g.L.Links.told c.send.new.self)
    (g.L.Links.faults c.args.links.now) (g.L.Links.faults c.send.new.self) is (rw (← c.packet.view_is, ← c.as_slice.ensures.value) c.in-Err-Failed.ensures.frames)
    c.in-Err-Failed.ensures.cause.later (c.in-Err-Failed.ensures.cause.failed (ap (λ e. Err e) c.in-Err-Failed.field-0-is)) carries))

use Rattle.std.proofs.Common.{arith, sym, ◌∙◌, ap}
use Rattle.std.proofs.lemmas.List.{length-set}
use Rattle.std.specs.Prelude.{None, is_some}
use Rattle.nys_seats.proofs.CountLemmas.{one_fewer}
use Rattle.nys_seats.proofs.seats.Seats.clear.Goals as goal

-- a seat is taken
pub overflow_sub-self : goal.overflow_sub-self
overflow_sub-self g c =
    let fewer = one_fewer c.self.inside.held.items c.args.maker _ (omega (arith, c.self.invariant.seats, c.requires.maker)) (ap is_some (sym (c.take-was.ensures.value ∙ c.index_mut.ensures.value)) ∙ c.if-is_none.ensures) in
    omega (arith, fewer, c.self.invariant.count)

-- one fewer is
pub invariant_of-self-2 : goal.invariant_of-self-2
invariant_of-self-2 g c =
    let fewer = one_fewer c.self.inside.held.items c.args.maker _ (omega (arith, c.self.invariant.seats, c.requires.maker)) (ap is_some (sym (c.take-was.ensures.value ∙ c.index_mut.ensures.value)) ∙ c.if-is_none.ensures) in
    rw c.take-was.ensures.after (record {
      seats = length-set c.self.inside.held.items c.args.maker None ∙ c.self.invariant.seats;
      count = omega (arith, fewer, c.self.invariant.count);
    })

use Rattle.std.proofs.Common.{◌≡◌, arith, ◌∙◌}
use Rattle.std.proofs.lemmas.List.{length-set}
use Rattle.std.specs.Prelude.{Some, None, slice_index_or}
use Rattle.nys_seats.proofs.CountLemmas.{not_more, one_more}
use Rattle.nys_seats.proofs.seats.Seats.keep.Goals as goal

-- at most all are taken
pub overflow_add-self : goal.overflow_add-self
overflow_add-self g c = omega (arith, not_more c.self.inside.held.items, c.self.invariant.count, c.self.invariant.seats)

-- one more is taken
pub invariant_of-self : goal.invariant_of-self
invariant_of-self g c =
    let empty : slice_index_or c.self.inside.held.items c.args.maker None ≡ None = grind (arith, c.index.ensures, c.in-None.is, c.self.invariant.seats, c.requires.maker) in
    let more = one_more c.self.inside.held.items c.args.maker c.args.what (omega (arith, c.self.invariant.seats, c.requires.maker)) empty in
    record { seats = length-set c.self.inside.held.items c.args.maker (Some c.args.what) ∙ c.self.invariant.seats; count = omega (arith, more, c.self.invariant.count) }

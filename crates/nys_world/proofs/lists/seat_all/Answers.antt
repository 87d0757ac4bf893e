-- One maker more took its seat.
use Rattle.std.proofs.Common.{◌+◌, ◌∙◌, ap, drop, length}
use Rattle.nys_stmt.specs.declared.tags.Tags.{Tags}
use Rattle.nys_votes.specs.Seats.{with_seat}
use Rattle.nys_rules.proofs.SeatKeeping.{length-with_seat}
use Rattle.nys_world.proofs.BundleLemmas.{fold_next}
use Rattle.nys_world.proofs.SeatLemmas.{Kept, with_makers}
use Rattle.nys_world.proofs.lists.seat_all.Goals as goal

pub loop-i-preserved : goal.loop-i-preserved
loop-i-preserved c =
    let makers = c.args.makers.now in
    let m = c.get.result.now in (
      ap (λ (kept : Kept). with_makers (drop (c.loop-i.i + 1) makers) kept) c.in_ok-seat.ensures
          ∙ fold_next (λ (kept : Kept) (t : Tags). with_seat t.maker t.tags kept) c.loop-i.seats.items makers c.loop-i.i m c.get.ensures.member
          ∙ c.loop-i.invariant.0,
      ap (λ (kept : Kept). length kept) c.in_ok-seat.ensures ∙ length-with_seat m.maker m.tags c.loop-i.seats.items ∙ c.loop-i.invariant.1,
    )

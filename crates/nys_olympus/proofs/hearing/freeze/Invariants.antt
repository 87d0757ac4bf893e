use Rattle.std.proofs.Common.{◌≡◌, drop}
use Rattle.std.specs.Prelude.{fold}
use Rattle.nys_votes.specs.Seats.{with_seat}
use Rattle.nys_olympus.proofs.hearing.freeze.Given as goal

-- the seats so far, with the makers left, are all
abbrev pub invariant-loop-tags : goal.invariant-loop-tags
invariant-loop-tags l = fold (λ seats m. with_seat m.maker l.slot seats) l.seats (drop l.tags-index l.makers) ≡ fold (λ seats m. with_seat m.maker l.slot seats) l.fn.seats l.makers

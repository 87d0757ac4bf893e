-- The makers take empty seats: the record is of its own statement.
use Rattle.std.proofs.Common.{None, refl, ◌∙◌, ap, subst, sym}
use Rattle.std.specs.Prelude.{replicate}
use Rattle.nys_world.specs.Bundles.{AreSeated}
use Rattle.nys_world.proofs.BundleLemmas.{bundled_same}
use Rattle.nys_world.proofs.SeatLemmas.{Kept, seated_first, with_makers}
use Rattle.nys_world.proofs.bundling.first_seats.Goals as goal

-- its makers take them
pub returns-clause-value : goal.returns-clause-value
returns-clause-value c =
    c.in_ok-seat_all.ensures
    ∙ ap (λ (kept : Kept). with_makers c.args.first.now.makers kept) c.in_ok-seats.ensures
    ∙ bundled_same c.args.first.now.statement (replicate 33 None) c.args.first.now refl

-- and each seat has tags
pub returns-clause-rule : goal.returns-clause-rule
returns-clause-rule c =
    subst AreSeated
    (sym (c.in_ok-seat_all.ensures ∙ ap (λ (kept : Kept). with_makers c.args.first.now.makers kept) c.in_ok-seats.ensures))
    (seated_first c.args.first.now c.requires)

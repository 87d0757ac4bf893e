-- Makers of the statement take their seats, and others don't.
use Rattle.std.proofs.Common.{◌≡◌, true, subst, sym, ◌∙◌}
use Rattle.nys_world.specs.Bundles.{AreSeated}
use Rattle.nys_world.proofs.BundleLemmas.{bundled_other, bundled_same}
use Rattle.nys_world.proofs.SeatLemmas.{record_tagged, seated_after}
use Rattle.nys_world.proofs.bundling.join.Goals as goal

-- the record is of the statement
pub returns-in_ok-seat_all-clause-rule : goal.returns-in_ok-seat_all-clause-rule
returns-in_ok-seat_all-clause-rule c =
    subst AreSeated (sym c.in_ok-seat_all.ensures)
    (seated_after c.args.found.now.makers c.args.seats.now.items (record_tagged c.args.found.now c.requires.found) c.requires.seats)

-- it is of another
pub returns-else-is_same_statement-clause-value : goal.returns-else-is_same_statement-clause-value
returns-else-is_same_statement-clause-value c =
    bundled_other c.args.statement.now c.args.seats.now.items c.args.found.now
    (λ same.
    let alike : c.is_same_statement.result ≡ true = c.is_same_statement.ensures.1 same in
    let differ = c.if-is_same_statement.false in cc)

-- it is of the statement
pub returns-in_ok-seat_all-clause-value : goal.returns-in_ok-seat_all-clause-value
returns-in_ok-seat_all-clause-value c =
    c.in_ok-seat_all.ensures
    ∙ bundled_same c.args.statement.now c.args.seats.now.items c.args.found.now
    (c.is_same_statement.ensures.0 c.if-is_same_statement.true)

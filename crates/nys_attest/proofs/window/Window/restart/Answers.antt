-- Nothing is kept in an empty window.
use Rattle.std.proofs.Common.{ap, ◌∙◌}
use Rattle.nys_attest.specs.Windows.{seats_of}
use Rattle.nys_attest.proofs.TableLemmas.{empty_window}
use Rattle.nys_attest.proofs.window.Window.restart.Goals as goal

pub returns-clause-seats : goal.returns-clause-seats
returns-clause-seats c k =
    ap (λ kept. seats_of (record { next = c.args.next; kept = kept }) k) c.clear.ensures.items ∙ empty_window c.args.next k

-- The window that begins one number later keeps what it kept, but for the first number.
use Rattle.std.proofs.Common.{◌+◌, ap, ◌∙◌}
use Rattle.nys_attest.specs.Windows.{seats_of}
use Rattle.nys_attest.proofs.PlaceLemmas.{moved}
use Rattle.nys_attest.proofs.window.Window.took.Goals as goal

pub returns-clause-seats : goal.returns-clause-seats
returns-clause-seats c k =
    rw (← c.self.view_is)
    (ap (λ kept. seats_of (record { next = c.self.inside.next + 1; kept = kept }) k) c.drop_first.ensures
    ∙ moved c.self.inside.next c.self.inside.kept.items k c.self.invariant)

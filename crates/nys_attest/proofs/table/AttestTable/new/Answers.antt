-- At first nothing is kept.
use Rattle.std.proofs.Common.{ap, ◌∙◌}
use Rattle.nys_attest.specs.Windows.{next_of, seats_at}
use Rattle.nys_attest.proofs.TableLemmas.{first_next, first_seats}
use Rattle.nys_attest.proofs.table.AttestTable.new.Goals as goal

pub returns-clause-next : goal.returns-clause-next
returns-clause-next c p = ap (λ t. next_of t p) c.loop.invariant ∙ first_next c.loop.counter p

pub returns-clause-seats : goal.returns-clause-seats
returns-clause-seats c p k = ap (λ t. seats_at t p k) c.loop.invariant ∙ first_seats c.loop.counter p k

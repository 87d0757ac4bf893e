-- The two laws, at any scope.
use Rattle.nys_rules.proofs.CertificateLemmas.{read_as_makers}
use Rattle.nys_rules.proofs.SeatKeeping.{keep_seats}
use Rattle.nys_rules.proofs.laws.certificates_law.Goals as goal

pub returns-clause-counts : goal.returns-clause-counts
returns-clause-counts g c = λ scope. read_as_makers scope

pub returns-clause-seats : goal.returns-clause-seats
returns-clause-seats g c = λ scope. keep_seats scope

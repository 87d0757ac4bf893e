-- The statements before this one were made.
use Rattle.std.proofs.Common.{take}
use Rattle.nys_rules.specs.Forged.{with_made}
use Rattle.nys_world.specs.Outcomes.{Writes}
use Rattle.nys_world.proofs.books.Books.made.Given as goal

abbrev pub invariant-loop-statement : goal.invariant-loop-statement
invariant-loop-statement l = Writes l.fn.self l.self (λ w. record w { ledger = with_made l.party (take l.statement-index l.statements) w.ledger })

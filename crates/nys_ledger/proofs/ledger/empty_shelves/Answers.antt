-- On empty shelves stands nothing.
use Rattle.std.proofs.Common.{subst}
use Rattle.nys_ledger.specs.Shelves.{Owns, Shares}
use Rattle.nys_ledger.proofs.ShelfLemmas.{owns_nothing}
use Rattle.nys_ledger.proofs.SharedLemmas.{shares_nothing}
use Rattle.nys_ledger.proofs.ledger.empty_shelves.Goals as goal

pub returns-clause-empty : goal.returns-clause-empty
returns-clause-empty c party statement owned =
    owns_nothing c.loop.counter party statement (subst (λ shelves. Owns shelves party statement) c.loop.invariant owned)

pub returns-clause-shared : goal.returns-clause-shared
returns-clause-shared c party statement first shared =
    shares_nothing c.loop.counter party statement first
    (subst (λ shelves. Shares shelves party statement first) c.loop.invariant shared)

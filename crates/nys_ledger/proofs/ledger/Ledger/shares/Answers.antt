-- Where nothing on the shelf clashes, nothing that the party made does.
use Rattle.std.proofs.Common.{subst}
use Rattle.nys_ledger.specs.Shelves.{IsAlike}
use Rattle.nys_ledger.proofs.FirstLemmas.{HasNone, if_none}
use Rattle.nys_ledger.proofs.SharedLemmas.{none_owned}
use Rattle.nys_ledger.proofs.ledger.Ledger.shares.Goals as goal

pub returns-clause-none : goal.returns-clause-none
returns-clause-none c =
    if_none c.first_alike.result
    (λ none. none_owned c.args.self.now c.args.party c.args.statement.now
    (subst (HasNone (IsAlike c.args.party c.args.statement.now)) c.shelf.ensures none))
    c.first_alike.ensures.none

-- The statement is put on its shelf, where each party owned what it owned before.
use Rattle.std.proofs.Common.{arith, ◌<◌, length}
use Rattle.nys_ledger.specs.Shelves.{shelf_of}
use Rattle.nys_ledger.proofs.ShelfLemmas.{on_ok, owns_more, shelf_within}
use Rattle.nys_ledger.proofs.SharedLemmas.{shares_more}
use Rattle.nys_ledger.proofs.ledger.Ledger.made.Goals as goal

pub returns-clause-kept : goal.returns-clause-kept
returns-clause-kept c =
    let statement = c.args.statement.now in
    let within : shelf_of c.args.party statement.body < length c.args.self.now
    = omega (arith, shelf_within c.args.party statement.body, c.put.ensures.size) in
    on_ok c.put.result (λ e p s. rw e (owns_more c.args.self.now c.args.party statement p s within)) c.put.ensures.ok

pub returns-clause-shared : goal.returns-clause-shared
returns-clause-shared c =
    let statement = c.args.statement.now in
    let within : shelf_of c.args.party statement.body < length c.args.self.now
    = omega (arith, shelf_within c.args.party statement.body, c.put.ensures.size) in
    on_ok c.put.result (λ e p s first. rw e (shares_more c.args.self.now c.args.party statement p s first within)) c.put.ensures.ok

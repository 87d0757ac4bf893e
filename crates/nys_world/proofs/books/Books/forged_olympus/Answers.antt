-- The Olympus is the only maker.
use Rattle.nys_rules.specs.Scope.{olympus}
use Rattle.nys_world.specs.Shows.{setting_of}
use Rattle.nys_world.proofs.ForgedMakers.{forged_one}
use Rattle.nys_world.proofs.books.Books.forged_olympus.Goals as goal

pub returns-then-never_made-clause-some : goal.returns-then-never_made-clause-some
returns-then-never_made-clause-some g c = λ w k.
    let setting = setting_of (g.P.Protocol.rules c.args.stage.now.cx.protocol) c.args.stage.now in
    rw c.if-not-is_told.false (forged_one setting w.ledger c.args.statement.now olympus (c.never_made.ensures.never c.if-never_made.true w k))

-- One statement after another.
use Rattle.std.proofs.Common.{List, take, subst}
use Rattle.nys_rules.specs.Forged.{Entry, with_made}
use Rattle.nys_world.specs.Shows.{Keeps}
use Rattle.nys_world.proofs.BooksKeep.{made_next}
use Rattle.nys_world.proofs.books.Books.made.Goals as goal

-- one statement more was made
pub loop-statement-preserved : goal.loop-statement-preserved
loop-statement-preserved c = λ w k.
    let made = take c.loop-statement.statement-index c.args.statements.now in
    subst (λ (entries : List Entry). Keeps c.made_one.new.self (record w { ledger = entries }))
    (made_next c.args.party c.args.statements.now c.loop-statement.statement-index c.statement-item.result w.ledger
    c.loop-statement-test.true c.statement-item.is)
    (c.in_ok-made_one.ensures (record w { ledger = with_made c.args.party made w.ledger }) (c.loop-statement.invariant w k))

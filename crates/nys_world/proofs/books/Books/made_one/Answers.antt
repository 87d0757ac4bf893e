-- What the ledger has afterwards.
use Rattle.nys_world.proofs.BooksKeep.{keeps_made}
use Rattle.nys_world.proofs.books.Books.made_one.Goals as goal

pub returns : goal.returns
returns c = λ w k.
    keeps_made c.args.self.now w _ c.args.party c.args.statement.now k c.in_ok-made.ensures.kept c.in_ok-made.ensures.shared

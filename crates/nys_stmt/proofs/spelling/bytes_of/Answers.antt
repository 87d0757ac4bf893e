use Rattle.nys_stmt.proofs.Sizes.{grown_by_spelling}
use Rattle.nys_stmt.proofs.spelling.bytes_of.Goals as goal

-- the bytes grew by those of the statement
pub returns-clause-size : goal.returns-clause-size
returns-clause-size c = grown_by_spelling c.args.statement.now c.args.out.now c.put_statement.new.out c.in_ok-put_statement.ensures.sound c.in_ok-put_statement.ensures.ok

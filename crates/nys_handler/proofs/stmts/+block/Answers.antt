use Rattle.std.proofs.Common.{arith}
use Rattle.nys_meaning.proofs.StmtEquations as eq
use Rattle.nys_handler.proofs.stmts.+block.Goals as goal

-- a statement does what its equation says
pub act-returns-in-Let : goal.act-returns-in-Let
act-returns-in-Let t c = grind (arith, eq.acts_let)

-- the same of an assignment
pub act-returns-in-Set : goal.act-returns-in-Set
act-returns-in-Set t c = grind (arith, eq.acts_set)

-- the same of an assignment to an item
pub act-returns-in-SetItem : goal.act-returns-in-SetItem
act-returns-in-SetItem t c = grind (arith, eq.acts_set_item)

-- the same of an `if`
pub act-returns-in-If : goal.act-returns-in-If
act-returns-in-If t c = grind (arith, eq.acts_if)

-- the same of a `for`
pub act-returns-in_err-from-in-For : goal.act-returns-in_err-from-in-For
act-returns-in_err-from-in-For t c = grind (arith, eq.acts_for)

pub act-returns-in_err-to-in-For : goal.act-returns-in_err-to-in-For
act-returns-in_err-to-in-For t c = grind (arith, eq.acts_for)

pub act-returns-in_ok-to-in-For : goal.act-returns-in_ok-to-in-For
act-returns-in_ok-to-in-For t c = grind (arith, eq.acts_for)

-- the same of an `each`
pub act-returns-in-Each : goal.act-returns-in-Each
act-returns-in-Each t c = grind (arith, eq.acts_each)

-- the same of a `send`
pub act-returns-in-Send : goal.act-returns-in-Send
act-returns-in-Send t c = grind (arith, eq.acts_send)

-- the same of an `out`
pub act-returns-in-Out : goal.act-returns-in-Out
act-returns-in-Out t c = grind (arith, eq.acts_out)

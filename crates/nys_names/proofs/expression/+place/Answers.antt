use Rattle.std.proofs.Common.{arith}
use Rattle.nys_names.proofs.ExprEquations as eq
use Rattle.nys_names.proofs.expression.+place.Goals as goal

-- a factor becomes what its equation says
pub factor-returns-in_err-turned-in-Minus : goal.factor-returns-in_err-turned-in-Minus
factor-returns-in_err-turned-in-Minus t c = grind (arith, eq.factor_minus)

pub factor-returns-in_err-new-in-Minus : goal.factor-returns-in_err-new-in-Minus
factor-returns-in_err-new-in-Minus t c = grind (arith, eq.factor_minus)

pub factor-returns-in_ok-new-in-Minus : goal.factor-returns-in_ok-new-in-Minus
factor-returns-in_ok-new-in-Minus t c = grind (arith, eq.factor_minus)

-- the same of a number
pub factor-returns-in-Number : goal.factor-returns-in-Number
factor-returns-in-Number t c = grind (arith, eq.factor_number)

-- the same of `me`
pub factor-returns-in-Me : goal.factor-returns-in-Me
factor-returns-in-Me t c = grind (arith, eq.factor_me)

-- the same of `hosts`
pub factor-returns-in-Hosts : goal.factor-returns-in-Hosts
factor-returns-in-Hosts t c = grind (arith, eq.factor_hosts)

-- the same of a length
pub factor-returns-in_err-list-in-Len : goal.factor-returns-in_err-list-in-Len
factor-returns-in_err-list-in-Len t c = grind (arith, eq.factor_len)

pub factor-returns-in_ok-list-in-Len : goal.factor-returns-in_ok-list-in-Len
factor-returns-in_ok-list-in-Len t c = grind (arith, eq.factor_len)

-- the same of a scalar
pub factor-returns-in_err-scalar-in-Scalar : goal.factor-returns-in_err-scalar-in-Scalar
factor-returns-in_err-scalar-in-Scalar t c = grind (arith, eq.factor_scalar)

pub factor-returns-in_ok-scalar-in-Scalar : goal.factor-returns-in_ok-scalar-in-Scalar
factor-returns-in_ok-scalar-in-Scalar t c = grind (arith, eq.factor_scalar)

-- the same of an item
pub factor-returns-in_err-name-in-Item : goal.factor-returns-in_err-name-in-Item
factor-returns-in_err-name-in-Item t c = grind (arith, eq.factor_item)

pub factor-returns-in_err-index-in-Item : goal.factor-returns-in_err-index-in-Item
factor-returns-in_err-index-in-Item t c = grind (arith, eq.factor_item)

pub factor-returns-in_err-new-in-Item : goal.factor-returns-in_err-new-in-Item
factor-returns-in_err-new-in-Item t c = grind (arith, eq.factor_item)

pub factor-returns-in_ok-new-in-Item : goal.factor-returns-in_ok-new-in-Item
factor-returns-in_ok-new-in-Item t c = grind (arith, eq.factor_item)

-- the same of parentheses
pub factor-returns-in_err-whole-in-Inner : goal.factor-returns-in_err-whole-in-Inner
factor-returns-in_err-whole-in-Inner t c = grind (arith, eq.factor_inner)

pub factor-returns-in_err-new-in-Inner : goal.factor-returns-in_err-new-in-Inner
factor-returns-in_err-new-in-Inner t c = grind (arith, eq.factor_inner)

pub factor-returns-in_ok-new-in-Inner : goal.factor-returns-in_ok-new-in-Inner
factor-returns-in_ok-new-in-Inner t c = grind (arith, eq.factor_inner)

use Rattle.std.proofs.Common.{arith}
use Rattle.nys_meaning.proofs.Equations as eq
use Rattle.nys_walk.proofs.walk.+walk.Goals as goal

-- a factor gives what its equation says
pub factor-returns-in_err-unit-in-Minus : goal.factor-returns-in_err-unit-in-Minus
factor-returns-in_err-unit-in-Minus t c = grind (arith, eq.factor_minus)

pub factor-returns-in_err-value-in-Minus : goal.factor-returns-in_err-value-in-Minus
factor-returns-in_err-value-in-Minus t c = grind (arith, eq.factor_minus)

pub factor-returns-in_ok-value-in-Minus : goal.factor-returns-in_ok-value-in-Minus
factor-returns-in_ok-value-in-Minus t c = grind (arith, eq.factor_minus)

-- the same of a number
pub factor-returns-in_err-unit-in-Number : goal.factor-returns-in_err-unit-in-Number
factor-returns-in_err-unit-in-Number t c = grind (arith, eq.factor_number)

pub factor-returns-in_ok-unit-in-Number : goal.factor-returns-in_ok-unit-in-Number
factor-returns-in_ok-unit-in-Number t c = grind (arith, eq.factor_number)

-- the same of `me`
pub factor-returns-in_err-unit-in-Me : goal.factor-returns-in_err-unit-in-Me
factor-returns-in_err-unit-in-Me t c = grind (arith, eq.factor_me)

pub factor-returns-in_ok-unit-in-Me : goal.factor-returns-in_ok-unit-in-Me
factor-returns-in_ok-unit-in-Me t c = grind (arith, eq.factor_me)

-- the same of `hosts`
pub factor-returns-in_err-unit-in-Hosts : goal.factor-returns-in_err-unit-in-Hosts
factor-returns-in_err-unit-in-Hosts t c = grind (arith, eq.factor_hosts)

pub factor-returns-in_ok-unit-in-Hosts : goal.factor-returns-in_ok-unit-in-Hosts
factor-returns-in_ok-unit-in-Hosts t c = grind (arith, eq.factor_hosts)

-- the same of a length
pub factor-returns-in_err-unit-in-Len : goal.factor-returns-in_err-unit-in-Len
factor-returns-in_err-unit-in-Len t c = grind (arith, eq.factor_len)

pub factor-returns-in_ok-unit-in-Len : goal.factor-returns-in_ok-unit-in-Len
factor-returns-in_ok-unit-in-Len t c = grind (arith, eq.factor_len)

-- the same of a scalar
pub factor-returns-in_err-unit-in-Scalar : goal.factor-returns-in_err-unit-in-Scalar
factor-returns-in_err-unit-in-Scalar t c = grind (arith, eq.factor_scalar)

pub factor-returns-in_ok-unit-in-Scalar : goal.factor-returns-in_ok-unit-in-Scalar
factor-returns-in_ok-unit-in-Scalar t c = grind (arith, eq.factor_scalar)

-- the same of an item
pub factor-returns-in_err-unit-in-Item : goal.factor-returns-in_err-unit-in-Item
factor-returns-in_err-unit-in-Item t c = grind (arith, eq.factor_item)

pub factor-returns-in_err-at-in-Item : goal.factor-returns-in_err-at-in-Item
factor-returns-in_err-at-in-Item t c = grind (arith, eq.factor_item)

pub factor-returns-in_ok-at-in-Item : goal.factor-returns-in_ok-at-in-Item
factor-returns-in_ok-at-in-Item t c = grind (arith, eq.factor_item)

-- the same of parentheses
pub factor-returns-in-Inner : goal.factor-returns-in-Inner
factor-returns-in-Inner t c = grind (arith, eq.factor_inner)

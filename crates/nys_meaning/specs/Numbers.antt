-- The numbers of the language: signed, of 64 bits.
use Rattle.std.specs.Prelude.{◌^◌, ℤ, pos, negsuc, ◌+ℤ◌, ◌-ℤ◌, ◌*ℤ◌, int_div, int_rem, int_lt, int_le, Bool, not, nat_lt, if◌then◌else◌, Option, Some, None}
use Rattle.std.specs.Ordering.{int_eq}
use Rattle.nys_tree.specs.declared.expr.AddOp.{AddOp}
use Rattle.nys_tree.specs.declared.expr.AddOp.TheVariants as add
use Rattle.nys_tree.specs.declared.expr.MulOp.{MulOp}
use Rattle.nys_tree.specs.declared.expr.MulOp.TheVariants as mul
use Rattle.nys_tree.specs.declared.expr.Compare.{Compare}
use Rattle.nys_tree.specs.declared.expr.Compare.TheVariants as compare

-- the number is at least -2^63 and below 2^63
abbrev pub fits : ℤ → Bool
fits (pos n) = nat_lt n (2 ^ 63)
fits (negsuc n) = nat_lt n (2 ^ 63)

-- a number that fits, or a fault
abbrev pub checked : ℤ → Option ℤ
checked z = if fits z then Some z else None

-- whether a number is 0, which is the truth that does not hold
abbrev pub is_zero : ℤ → Bool
is_zero z = int_eq z (pos 0)

-- the number of a truth
abbrev pub truth : Bool → ℤ
truth b = if b then pos 1 else pos 0

-- of a quotient or a remainder: no divisor is 0, and the quotient fits
abbrev pub divided : ℤ → ℤ → ℤ → Option ℤ
divided a b z = if is_zero b then None else if fits (int_div a b) then Some z else None

-- a sum or a difference
abbrev pub added : AddOp → ℤ → ℤ → Option ℤ
added add.Plus a b = checked (a +ℤ b)
added add.Minus a b = checked (a -ℤ b)

-- a product, a quotient rounded toward zero, or its remainder
abbrev pub multiplied : MulOp → ℤ → ℤ → Option ℤ
multiplied mul.Times a b = checked (a *ℤ b)
multiplied mul.Over a b = divided a b (int_div a b)
multiplied mul.Rest a b = divided a b (int_rem a b)

-- whether a comparison holds
abbrev pub compared : Compare → ℤ → ℤ → Bool
compared compare.Equal a b = int_eq a b
compared compare.NotEqual a b = not (int_eq a b)
compared compare.Less a b = int_lt a b
compared compare.LessEqual a b = int_le a b
compared compare.Greater a b = int_lt b a
compared compare.GreaterEqual a b = int_le b a

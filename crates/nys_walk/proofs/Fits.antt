-- What the checked operators of 64 bits answer, in the words of the language.
use Rattle.std.proofs.Common.{◌≡◌, zero, suc, ◌<◌, ℤ, pos, negsuc, Bool, true, false, Option, Some, None, if◌then◌else◌, arith, refl, ap}
use Rattle.std.specs.Prelude.{SomeIff, FitsSigned, int_div}
use Rattle.std.specs.Int.{w64, CanDivide, cast_unsigned}
use Rattle.nys_meaning.specs.Numbers.{fits, checked, is_zero, divided}

-- the test and the fact that a number fits
fits_is : (z : ℤ) → fits z ≡ true → FitsSigned w64 z
fits_is (pos n) h = grind arith
fits_is (negsuc n) h = grind arith

-- a number that fits passes the test
is_fit : (z : ℤ) → FitsSigned w64 z → fits z ≡ true
is_fit (pos n) h = grind arith
is_fit (negsuc n) h = grind arith

-- a checked operator, by whether its number fits
checked_by : (o : Option ℤ) (z : ℤ) (b : Bool) → (b ≡ true → FitsSigned w64 z) → (FitsSigned w64 z → b ≡ true) → SomeIff o (FitsSigned w64 z) z → o ≡ (if b then Some z else None)
checked_by (Some x) z true up down s = ap Some s.1
checked_by (Some x) z false up down s = let e : false ≡ true = down s.0 in cc
checked_by None z true up down s = absurd (s (up refl))
checked_by None z false up down s = refl

-- what a checked operator answers is the checked number
pub checked_is : (o : Option ℤ) (z : ℤ) → SomeIff o (FitsSigned w64 z) z → o ≡ checked z
checked_is o z s = checked_by o z (fits z) (fits_is z) (is_fit z) s

-- a number is not 0 where its bits are not
not_zero : (b : ℤ) → FitsSigned w64 b → is_zero b ≡ false → 0 < cast_unsigned w64 b
not_zero (pos zero) f z = let e : true ≡ false = z in cc
not_zero (pos (suc n)) f z = omega arith
not_zero (negsuc n) f z = omega arith

-- bits of a number that is not 0
is_not_zero : (b : ℤ) → 0 < cast_unsigned w64 b → is_zero b ≡ false
is_not_zero (pos zero) p = absurd (omega arith)
is_not_zero (pos (suc n)) p = grind arith
is_not_zero (negsuc n) p = refl

-- a checked quotient, by its divisor and its number
divided_by : (o : Option ℤ) (a b z : ℤ) (none some : Bool) → (none ≡ false → 0 < cast_unsigned w64 b) → (0 < cast_unsigned w64 b → none ≡ false)
    → (some ≡ true → FitsSigned w64 (int_div a b)) → (FitsSigned w64 (int_div a b) → some ≡ true) → SomeIff o (CanDivide w64 a b) z → o ≡ (if none then None else if some then Some z else None)
divided_by (Some x) a b z false true zero_up zero_down up down s = ap Some s.1
divided_by (Some x) a b z false false zero_up zero_down up down s = let e : false ≡ true = down s.0.1 in cc
divided_by (Some x) a b z true some zero_up zero_down up down s = let e : true ≡ false = zero_down s.0.0 in cc
divided_by None a b z true some zero_up zero_down up down s = refl
divided_by None a b z false false zero_up zero_down up down s = refl
divided_by None a b z false true zero_up zero_down up down s = absurd (s (zero_up refl, up refl))

-- what a checked quotient or remainder answers is the divided number
pub divided_is : (o : Option ℤ) (a b z : ℤ) → FitsSigned w64 b → SomeIff o (CanDivide w64 a b) z → o ≡ divided a b z
divided_is o a b z f s = divided_by o a b z (is_zero b) (fits (int_div a b)) (not_zero b f) (is_not_zero b) (fits_is (int_div a b)) (is_fit (int_div a b)) s

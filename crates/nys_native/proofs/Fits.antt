-- What the checked sum of 64 bits answers, in the words of the sum.
use Rattle.std.proofs.Common.{◌≡◌, ℤ, pos, negsuc, ◌+ℤ◌, Bool, true, false, Option, Some, None, if◌then◌else◌, arith, refl, ap}
use Rattle.std.specs.Prelude.{SomeIff, FitsSigned}
use Rattle.std.specs.Option.{option_map}
use Rattle.std.specs.Int.{w64}
use Rattle.nys_native.specs.Sums.{fits, fitting}

-- a number that passes the test fits
fits_is : (z : ℤ) → fits z ≡ true → FitsSigned w64 z
fits_is (pos n) h = grind arith
fits_is (negsuc n) h = grind arith

-- a number that fits passes the test
is_fit : (z : ℤ) → FitsSigned w64 z → fits z ≡ true
is_fit (pos n) h = grind arith
is_fit (negsuc n) h = grind arith

-- the answer of an operator, by whether its number passes the test
fitting_by : (o : Option ℤ) (z : ℤ) (b : Bool) → (b ≡ true → FitsSigned w64 z) → (FitsSigned w64 z → b ≡ true) → SomeIff o (FitsSigned w64 z) z → o ≡ (if b then Some z else None)
fitting_by (Some x) z true up down s = ap Some s.1
fitting_by (Some x) z false up down s = let e : false ≡ true = down s.0 in cc
fitting_by None z true up down s = absurd (s (up refl))
fitting_by None z false up down s = refl

-- what a checked operator answers is the number where it fits
pub fitting_is : (o : Option ℤ) (z : ℤ) → SomeIff o (FitsSigned w64 z) z → o ≡ fitting z
fitting_is o z s = fitting_by o z (fits z) (fits_is z) (is_fit z) s

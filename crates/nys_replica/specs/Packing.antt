-- The bytes of the numbers that show a state.
use Rattle.std.specs.Prelude.{◌≡◌, ℕ, ℤ, List, All, FitsSigned}
use Rattle.std.specs.Int.{w64, cast_unsigned}
use Rattle.std.specs.List.{flat_map}
use Rattle.byteorder.specs.Endian.{big_bytes}

-- a number: eight bytes, in two's complement, the greatest first
unfoldable pub number_bytes : ℤ → List ℕ
number_bytes number = big_bytes 8 (cast_unsigned w64 number)

-- numbers, one behind another
abbrev pub packed : List ℤ → List ℕ
packed numbers = flat_map number_bytes numbers

-- these are the bytes of the numbers, which are numbers of 64 bits
pub record IsPacked (bytes : List ℕ) (numbers : List ℤ) : Type 0 where
  pub bytes_are : bytes ≡ packed numbers
  pub fit : All (λ z. FitsSigned w64 z) numbers

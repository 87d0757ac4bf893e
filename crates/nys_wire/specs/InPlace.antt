-- What lies in bytes that were read in place.
use Rattle.std.specs.Prelude.{◌≡◌, ℕ, zero, suc, ◌*◌, ◌<◌, ◌≤◌, All, ℤ, List, [], ◌∷◌, length, take, drop, Result, Ok, Err}
use Rattle.std.specs.Int.{w64, from_be_bytes, cast_signed}
use Rattle.nys_bytes.specs.Reading.{Reading}
use Rattle.nys_bytes.specs.declared.payload.TheConstants.{MAX_NUMBERS}
use Rattle.nys_wire.specs.declared.fault.WireFault.{WireFault}

-- the items of a list that was read
abbrev pub items_of : {A : Type 0} → Result (List A × Reading) WireFault → List A
items_of (Ok read) = read.0
items_of (Err e) = []

-- the number that eight bytes are
abbrev pub number_of : List ℕ → ℤ
number_of bytes = cast_signed w64 (from_be_bytes w64 bytes)

-- so many numbers, one behind the other
unfoldable pub numbers_in : ℕ → List ℕ → List ℤ
numbers_in zero bytes = []
numbers_in (suc n) bytes = number_of (take 8 bytes) ∷ numbers_in n (drop 8 bytes)

-- as many numbers as a payload may have, and their bytes
pub record AreNumbers (count : ℕ) (bytes : List ℕ) : Type 0 where
  pub some : 1 ≤ count
  pub few : count ≤ MAX_NUMBERS
  pub size : length bytes ≡ 8 * count
  pub each : All (λ b. b < 256) bytes

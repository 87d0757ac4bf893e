-- Bytes as hexadecimal digits.
use Rattle.std.specs.Prelude.{ℕ, ◌&&◌, List, Option, None, Some, Result, Ok, Err, length, nat_le, if◌then◌else◌}
use Rattle.hex.specs.Hex.{decode_of}
use Rattle.hex.specs.declared.error.FromHexError.{FromHexError}
use Rattle.nys_schedule.specs.declared.hexes.TheConstants.{MAX_DIGITS}

-- the bytes, where there are any
abbrev pub bytes_in : Result (List ℕ) FromHexError → Option (List ℕ)
bytes_in (Ok bytes) = Some bytes
bytes_in (Err fault) = None

-- the HEX that a word is: two digits for each byte, in either case, for one byte or more
unfoldable pub hexes_of : List ℕ → Option (List ℕ)
hexes_of word =
    if nat_le 2 (length word) && nat_le (length word) MAX_DIGITS then bytes_in (decode_of word) else None

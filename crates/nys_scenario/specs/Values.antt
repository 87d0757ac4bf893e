-- What the value of a key may be: missing, of another type, or out of its range.
use Rattle.std.specs.Prelude.{ℕ, ℤ, pos, negsuc, ◌&&◌, Bool, true, false, List, [], ◌∷◌, ◌++◌, codes, replicate, nat_le, if◌then◌else◌, Option, Some, None, Result, Ok, Err}
use Rattle.std.specs.Str.{bytes_eq}
use Rattle.hex.specs.Hex.{decode_sized}
use Rattle.hex.specs.declared.error.FromHexError.{FromHexError}
use Rattle.toml.specs.Data.{Data, Items, no_items, item, Members, as_integer, as_str, get_member}
use Rattle.nys_scenario.specs.declared.limits.TheConstants.{MASTER_BYTES}
use Rattle.nys_scenario.specs.declared.fault.KeyKind.{KeyKind}
use Rattle.nys_scenario.specs.declared.fault.KeyKind.TheVariants.{Missing, Kind, Range}
use Rattle.nys_scenario.specs.declared.protocol.ProtocolName.{ProtocolName}
use Rattle.nys_scenario.specs.declared.protocol.ProtocolName.TheVariants.{Sum, Flood, Machine, Route, Tree}

-- a key that has to stand
abbrev pub required : {A : Type 0} → (Data → Result A KeyKind) → Option Data → Result A KeyKind
required read None = Err Missing
required read (Some found) = read found

-- a key that may be left out, and what stands for it then
abbrev pub optional : {A : Type 0} → A → (Data → Result A KeyKind) → Option Data → Result A KeyKind
optional otherwise read None = Ok otherwise
optional otherwise read (Some found) = read found

-- a value of the wanted type, which is None where the value is of another
abbrev pub typed : {A B : Type 0} → (A → Result B KeyKind) → Option A → Result B KeyKind
typed range None = Err Kind
typed range (Some value) = range value

-- each member of an array passes the test
abbrev pub all_items : (Data → Bool) → Items → Bool
all_items test no_items = true
all_items test (item first rest) = test first && all_items test rest

-- the values so far, and one more
abbrev pub with_value : {A : Type 0} → List A → Option A → Option (List A)
with_value before None = None
with_value before (Some value) = Some (before ++ value ∷ [])

-- the values before an array and those that its members give; None where a member gives none
abbrev pub values_after : {A : Type 0} → (Data → Option A) → Option (List A) → Items → Option (List A)
values_after give None more = None
values_after give (Some before) no_items = Some before
values_after give (Some before) (item first rest) =
    values_after give (with_value before (give first)) rest

-- a number of a range
abbrev pub in_range : ℕ → ℕ → ℤ → Result ℕ KeyKind
in_range least most (pos n) = if nat_le least n && nat_le n most then Ok n else Err Range
in_range least most (negsuc n) = Err Range

-- a key with a number of a range
unfoldable pub number_of : ℕ → ℕ → List ℕ → Members → Result ℕ KeyKind
number_of least most key table =
    required (λ found. typed (in_range least most) (as_integer found)) (get_member key table)

-- any text, where a text stands
abbrev pub text_in : Data → Result (List ℕ) KeyKind
text_in found = typed (λ text. Ok text) (as_str found)

-- a key with a text, which is empty where it is left out
unfoldable pub text_of : List ℕ → Members → Result (List ℕ) KeyKind
text_of key table = optional [] text_in (get_member key table)

-- the protocol that a word names
abbrev pub name_in : List ℕ → Result ProtocolName KeyKind
name_in word = if bytes_eq word (codes "sum") then Ok Sum
    else (if bytes_eq word (codes "flood") then Ok Flood
    else (if bytes_eq word (codes "machine") then Ok Machine
    else (if bytes_eq word (codes "route") then Ok Route
    else (if bytes_eq word (codes "tree") then Ok Tree else Err Range))))

-- the key `protocol`
unfoldable pub name_of : Members → Result ProtocolName KeyKind
name_of table = required (λ found. typed name_in (as_str found)) (get_member (codes "protocol") table)

-- the text of a machine where this protocol runs: a machine has to have one, and else it may be left out
abbrev pub machine_at : ProtocolName → Option Data → Result (List ℕ) KeyKind
machine_at Machine found = required text_in found
machine_at Sum found = optional [] text_in found
machine_at Flood found = optional [] text_in found
machine_at Route found = optional [] text_in found
machine_at Tree found = optional [] text_in found

-- the key `machine`
unfoldable pub text_for : ProtocolName → Members → Result (List ℕ) KeyKind
text_for name table = machine_at name (get_member (codes "machine") table)

-- the bytes that hexadecimal digits stand for, where they stand for a key's number of bytes
abbrev pub key_bytes : Result (List ℕ) FromHexError → Result (List ℕ) KeyKind
key_bytes (Ok bytes) = Ok bytes
key_bytes (Err fault) = Err Range

-- two hexadecimal digits for each byte of a key, in either case
abbrev pub master_in : List ℕ → Result (List ℕ) KeyKind
master_in text = key_bytes (decode_sized text MASTER_BYTES)

-- a master key, which is all zeros where it is left out and not needed
abbrev pub master_at : Bool → Option Data → Result (List ℕ) KeyKind
master_at true None = Err Missing
master_at false None = Ok (replicate MASTER_BYTES 0)
master_at needed (Some found) = typed master_in (as_str found)

-- the key `master`
unfoldable pub master_of : Bool → Members → Result (List ℕ) KeyKind
master_of needed table = master_at needed (get_member (codes "master") table)

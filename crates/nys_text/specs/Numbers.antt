-- The numbers that words write.
use Rattle.std.specs.Prelude.{ℕ, ◌+◌, ◌*◌, ◌-◌, ◌^◌, ℤ, pos, neg_ℤ, Bool, false, ◌&&◌, List, [], ◌∷◌, Option, None, Some, is_some, drop, length, nat_lt, if◌then◌else◌}
use Rattle.std.specs.Option.{option_map}
use Rattle.std.specs.List.{list_all, filter_map}
use Rattle.std.specs.Char.{is_ascii_digit}
use Rattle.std.specs.Str.{all_ascii_digits}
use Rattle.std.specs.Str.Parse.{digits_value, starts_with_minus}
use Rattle.nys_bytes.specs.declared.payload.TheConstants.{MAX_NUMBERS}

-- one digit or more, and nothing else
abbrev pub is_numeral : List ℕ → Bool
is_numeral [] = false
is_numeral (c ∷ cs) = all_ascii_digits (c ∷ cs)

-- the value of a numeral, where it is below the limit
unfoldable pub numeral_below : ℕ → List ℕ → Option ℕ
numeral_below limit word =
    if is_numeral word && nat_lt (digits_value 10 word) limit then Some (digits_value 10 word) else None

-- the NUM that a word is: a numeral below 2^32
unfoldable pub num_of : List ℕ → Option ℕ
num_of word = numeral_below (2 ^ 32) word

-- the NUM of words that are one word alone
abbrev pub only_num : List (List ℕ) → Option ℕ
only_num [] = None
only_num (word ∷ []) = num_of word
only_num (word ∷ other ∷ words) = None

-- the value as a signed number
abbrev pub pos_of : Option ℕ → Option ℤ
pos_of value = option_map pos value

-- the value below zero
abbrev pub neg_of : Option ℕ → Option ℤ
neg_of value = option_map (λ n. neg_ℤ (pos n)) value

-- the INT that a word is: a numeral, or `-` and a numeral, that fits 64 bits with its sign
unfoldable pub int_of : List ℕ → Option ℤ
int_of word =
    if starts_with_minus word then neg_of (numeral_below (2 ^ 63 + 1) (drop 1 word))
    else pos_of (numeral_below (2 ^ 63) word)

-- the value with one more digit behind it, where it stays below the limit
abbrev pub longer : ℕ → ℕ → ℕ → Option ℕ
longer limit value c =
    if is_ascii_digit c && nat_lt (value * 10 + (c - 48)) limit then Some (value * 10 + (c - 48)) else None

-- each word is an INT
abbrev pub all_ints : List (List ℕ) → Bool
all_ints words = list_all (λ word. is_some (int_of word)) words

-- the numbers of the words that are INTs
abbrev pub int_values : List (List ℕ) → List ℤ
int_values words = filter_map int_of words

-- the numbers of words of which each is an INT
abbrev pub ints_of : List (List ℕ) → Option (List ℤ)
ints_of words = if all_ints words then Some (int_values words) else None

-- the PAYLOAD that words are: one to MAX_NUMBERS words, each an INT
abbrev pub payload_of : List (List ℕ) → Option (List ℤ)
payload_of [] = None
payload_of (word ∷ words) = if nat_lt MAX_NUMBERS (length (word ∷ words)) then None else ints_of (word ∷ words)

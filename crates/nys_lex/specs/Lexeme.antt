-- What stands first in a text that is not empty: the longest token, what separates tokens, or a fault.
use Rattle.std.specs.Prelude.{ℕ, ◌+◌, ◌*◌, ◌-◌, ◌^◌, pos, Bool, ◌==◌, nat_lt, if◌then◌else◌, List, ◌∷◌, [], take, fold, length, slice_index, codes}
use Rattle.std.specs.Char.{is_ascii_digit}
use Rattle.std.specs.List.{prefix_len, list_any}
use Rattle.std.specs.Str.{bytes_eq}
use Rattle.nys_lex.specs.declared.lexeme.TheConstants.{MAX_NAME}
use Rattle.nys_lex.specs.declared.bytes.Sort.{Sort}
use Rattle.nys_lex.specs.declared.bytes.Sort.TheVariants as sort
use Rattle.nys_lex.specs.declared.fault.MachineKind.TheVariants as kind
use Rattle.nys_lex.specs.declared.lexeme.Lexeme.{Lexeme}
use Rattle.nys_lex.specs.declared.lexeme.Lexeme.TheVariants.{Gap, Found, Refused}
use Rattle.nys_lex.specs.declared.token.TokenKind.TheVariants as token
use Rattle.nys_lex.specs.Bytes.{is_blank, is_letter, is_in}

-- the words of the grammar, which are no names
abbrev pub words : List (List ℕ)
words =
    codes "var" ∷ codes "on" ∷ codes "input" ∷ codes "receive" ∷ codes "let" ∷ codes "if" ∷ codes "else" ∷ codes "for" ∷ codes "from" ∷ codes "to"
    ∷ codes "each" ∷ codes "send" ∷ codes "all" ∷ codes "out" ∷ codes "or" ∷ codes "and" ∷ codes "not" ∷ codes "me" ∷ codes "hosts" ∷ codes "len" ∷ []

-- the symbols of two bytes, which are read before those of one
abbrev pub pairs : List (List ℕ)
pairs = codes "==" ∷ codes "!=" ∷ codes "<=" ∷ codes ">=" ∷ []

-- the symbols of one byte
abbrev pub singles : List (List ℕ)
singles =
    codes "[" ∷ codes "]" ∷ codes "=" ∷ codes "-" ∷ codes ";" ∷ codes "{" ∷ codes "}" ∷ codes ":" ∷ codes "," ∷ codes "<" ∷ codes ">"
    ∷ codes "+" ∷ codes "*" ∷ codes "/" ∷ codes "%" ∷ codes "(" ∷ codes ")" ∷ []

-- one of these spellings is this one
abbrev pub is_among : List (List ℕ) → List ℕ → Bool
is_among spellings text = list_any (bytes_eq text) spellings

-- the number whose digits are those of a number and then this one
abbrev pub with_digit : ℕ → ℕ → ℕ
with_digit value digit = 10 * value + (digit - 48)

-- the number that decimal digits write
abbrev pub value_of : List ℕ → ℕ
value_of = fold with_digit 0

-- digits, which write a number below 2 ^ 63
unfoldable pub number_of : List ℕ → Lexeme
number_of digits = if nat_lt (value_of digits) (2 ^ 63) then Found (token.Number (pos (value_of digits))) (length digits) else Refused kind.Number

-- a word of the grammar, or a name of at most `MAX_NAME` bytes
unfoldable pub word_of : List ℕ → Lexeme
word_of text =
    if is_among words text then Found (token.Word text) (length text)
    else (if nat_lt MAX_NAME (length text) then Refused kind.Number else Found (token.Name text) (length text))

-- a symbol with this spelling
abbrev pub found_symbol : List ℕ → Lexeme
found_symbol text = Found (token.Symbol text) (length text)

-- a symbol of two bytes, else one of one byte
unfoldable pub symbol_of : List ℕ → Lexeme
symbol_of text =
    if is_among pairs (take 2 text) then found_symbol (take 2 text)
    else (if is_among singles (take 1 text) then found_symbol (take 1 text) else Refused kind.Character)

-- the longest run of this sort at the front of a text
abbrev pub run : Sort → List ℕ → List ℕ
run sort text = take (prefix_len (is_in sort) text) text

-- by its first byte: a blank, a comment to the end of its line, a number, a word or a name, else a symbol
unfoldable pub first_lexeme : List ℕ → Lexeme
first_lexeme text =
    let first = slice_index text 0 in
    if is_blank first then Gap 1
    else (if first == 35 then Gap (prefix_len (is_in sort.Line) text)
    else (if is_ascii_digit first then number_of (run sort.Digit text)
    else (if is_letter first then word_of (run sort.Name text) else symbol_of text)))

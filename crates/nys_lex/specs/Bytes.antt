-- The sorts of bytes that tokens and gaps are made of.
use Rattle.std.specs.Prelude.{ℕ, Bool, not, ◌||◌, ◌==◌}
use Rattle.std.specs.Char.{is_ascii_alphabetic, is_ascii_alphanumeric, is_ascii_digit}
use Rattle.nys_lex.specs.declared.bytes.Sort.{Sort}
use Rattle.nys_lex.specs.declared.bytes.Sort.TheVariants.{Digit, Name, Line}

-- a space, a tab, a carriage return or a line feed
abbrev pub is_blank : ℕ → Bool
is_blank b = b == 32 || b == 9 || b == 13 || b == 10

-- a letter or an underscore, with which a name begins
abbrev pub is_letter : ℕ → Bool
is_letter b = is_ascii_alphabetic b || b == 95

-- digits make a number; letters, digits and underscores go on with a name; a comment goes on to the end of its line
abbrev pub is_in : Sort → ℕ → Bool
is_in Digit b = is_ascii_digit b
is_in Name b = is_ascii_alphanumeric b || b == 95
is_in Line b = not (b == 10)

-- The tokens of a text: what stands first, then the tokens of what is left.
use Rattle.std.specs.Prelude.{ℕ, zero, suc, ◌-◌, nat_lt, if◌then◌else◌, List, [], ◌∷◌, ◌++◌, length, Result, Ok, Err}
use Rattle.nys_lex.specs.declared.cutting.TheConstants.{MAX_TEXT}
use Rattle.nys_lex.specs.declared.fault.MachineFault.{MachineFault}
use Rattle.nys_lex.specs.declared.fault.MachineFault.TheVariants.{At}
use Rattle.nys_lex.specs.declared.fault.MachineKind.{MachineKind}
use Rattle.nys_lex.specs.declared.fault.MachineKind.TheVariants.{Long}
use Rattle.nys_lex.specs.declared.lexeme.Lexeme.{Lexeme}
use Rattle.nys_lex.specs.declared.lexeme.Lexeme.TheVariants.{Gap, Found, Refused}
use Rattle.nys_lex.specs.declared.place.Place.{Place}
use Rattle.nys_lex.specs.declared.token.Token.{Token}
use Rattle.nys_lex.specs.declared.token.TokenKind.{TokenKind}
use Rattle.nys_lex.specs.declared.token.TokenKind.TheVariants.{End}
use Rattle.nys_lex.specs.Place.{past_byte}
use Rattle.nys_lex.specs.Lexeme.{first_lexeme}

-- the tokens of a text, or its first fault
abbrev pub Cut : Type 0
Cut = Result (List Token) MachineFault

-- a token of this kind at this place
abbrev pub token_at : Place → TokenKind → Token
token_at p kind = record { line = p.line; col = p.col; kind = kind }

-- a fault of this kind at this place
abbrev pub fault_at : Place → MachineKind → MachineFault
fault_at p kind = At p.line p.col kind

-- these tokens stand before those
abbrev pub prepend : List Token → Cut → Cut
prepend found (Ok tokens) = Ok (found ++ tokens)
prepend found (Err fault) = Err fault

-- how many bytes stand first
abbrev pub len_of : Lexeme → ℕ
len_of (Gap len) = len
len_of (Found kind len) = len
len_of (Refused kind) = 1

-- a gap gives no token, and a fault ends the reading
abbrev pub by_lexeme : Place → Lexeme → Cut → Cut
by_lexeme p (Gap len) rest = rest
by_lexeme p (Found kind len) rest = prepend (token_at p kind ∷ []) rest
by_lexeme p (Refused kind) rest = Err (fault_at p kind)

-- the tokens of a text that stands at this place and whose first bytes, so many, belong to what was read before
unfoldable pub cut : Place → ℕ → List ℕ → Cut
cut p passed [] = Ok (token_at p End ∷ [])
cut p (suc passed) (byte ∷ text) = cut (past_byte p byte) passed text
cut p zero (byte ∷ text) = by_lexeme p (first_lexeme (byte ∷ text)) (cut (past_byte p byte) (len_of (first_lexeme (byte ∷ text)) - 1) text)

-- the limit of a machine's text, in bytes
abbrev pub max_text : ℕ
max_text = MAX_TEXT

-- the tokens of a whole text
unfoldable pub tokens : List ℕ → Cut
tokens text = if nat_lt max_text (length text) then Err (At 1 1 Long) else cut (record { line = 1; col = 1 }) 0 text

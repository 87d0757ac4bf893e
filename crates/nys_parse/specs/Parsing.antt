-- What every rule of the grammar is made of: a rule reads tokens from the front, and gives what it read with the tokens that are left, or the first fault.
use Rattle.std.specs.Prelude.{◌≡◌, ◌≢◌, ℕ, zero, suc, ℤ, Bool, true, false, if◌then◌else◌, List, [], ◌∷◌, ◌++◌, length, drop, Option, Some, None, Result, Ok, Err}
use Rattle.std.specs.Borrow.{Bor}
use Rattle.std.specs.Str.{bytes_eq}
use Rattle.nys_lex.specs.declared.fault.MachineFault.{MachineFault}
use Rattle.nys_lex.specs.declared.fault.MachineFault.TheVariants.{At, NoMemory}
use Rattle.nys_lex.specs.declared.fault.MachineKind.{MachineKind}
use Rattle.nys_lex.specs.declared.fault.MachineKind.TheVariants.{Expected, Deep}
use Rattle.nys_lex.specs.declared.token.Token.{Token}
use Rattle.nys_lex.specs.declared.token.TokenKind.{TokenKind}
use Rattle.nys_lex.specs.declared.token.TokenKind.TheVariants.{Word, Symbol, Name, Number, End}
use Rattle.nys_tree.specs.declared.name.Name as tree

-- what was read and the tokens that are left, or the first fault
abbrev pub Outcome : Type 0 → Type 0
Outcome A = Result (A × List Token) MachineFault

-- a rule of the grammar
abbrev pub Parser : Type 0 → Type 0
Parser A = List Token → Outcome A

-- a rule goes on behind what another read
abbrev pub and_then : {A B : Type 0} → Outcome A → (A → Parser B) → Outcome B
and_then (Ok p) f = f p.0 p.1
and_then (Err fault) f = Err fault

infixl 10 ◌>>=◌
-- one rule, then another by what the first read
abbrev pub ◌>>=◌ : {A B : Type 0} → Parser A → (A → Parser B) → Parser B
p >>= f = λ i. and_then (p i) f

infixl 10 ◌>>◌
-- one rule, then another
abbrev pub ◌>>◌ : {A B : Type 0} → Parser A → Parser B → Parser B
p >> q = p >>= (λ _. q)

-- reads nothing
abbrev pub pure : {A : Type 0} → A → Parser A
pure a = λ i. Ok (a, i)

infixr 11 ◌<$>◌
-- makes something of what a rule reads
abbrev pub ◌<$>◌ : {A B : Type 0} → (A → B) → Parser A → Parser B
f <$> p = p >>= (λ x. pure (f x))

-- the next token; a list that lacks its end has one at the text's beginning
abbrev pub next : List Token → Token
next [] = record { line = 1; col = 1; kind = End }
next (t ∷ ts) = t

-- a fault of this kind at the next token
abbrev pub fault_at : MachineKind → List Token → MachineFault
fault_at kind i = At (next i).line (next i).col kind

-- the next token isn't allowed here
abbrev pub refuse : {A : Type 0} → Parser A
refuse = λ i. Err (fault_at Expected i)

-- the next token opens a level too many
abbrev pub too_deep : {A : Type 0} → Parser A
too_deep = λ i. Err (fault_at Deep i)

-- how a word or a symbol of the grammar is spelled
abbrev pub spelling_of : TokenKind → List ℕ
spelling_of (Word text) = text
spelling_of (Symbol text) = text
spelling_of _ = []

-- how the next token is spelled, where it is a word or a symbol of the grammar
abbrev pub spelling : List Token → List ℕ
spelling i = spelling_of (next i).kind

-- the next token is this word or symbol
unfoldable pub sees : List ℕ → List Token → Bool
sees word i = bytes_eq (spelling i) word

-- passes the next token
abbrev pub skip : Parser (Unit {0})
skip = λ i. Ok (tt, drop 1 i)

-- where this word or symbol comes next, what comes behind it, and else another rule
abbrev pub if_next : {A : Type 0} → List ℕ → Parser A → Parser A → Parser A
if_next word p q = λ i. if sees word i then p (drop 1 i) else q i

-- this word or symbol
unfoldable pub expect : List ℕ → Parser (Unit {0})
expect word = if_next word (pure tt) refuse

-- the name that a token is, before it has a place among the numbers
abbrev pub name_of : Token → List ℕ → tree.Name
name_of t text = record { line = t.line; col = t.col; place = 0; len = 0; text = text }

-- NAME, by the next token
abbrev pub name_by : TokenKind → Parser tree.Name
name_by (Name text) = λ i. Ok (name_of (next i) text, drop 1 i)
name_by _ = refuse

-- NAME
unfoldable pub name : Parser tree.Name
name = λ i. name_by (next i).kind i

-- NUMBER, by the next token
abbrev pub number_by : TokenKind → Parser ℤ
number_by (Number value) = λ i. Ok (value, drop 1 i)
number_by _ = refuse

-- NUMBER
unfoldable pub number : Parser ℤ
number = λ i. number_by (next i).kind i

-- a NUMBER
abbrev pub is_number : TokenKind → Bool
is_number (Number value) = true
is_number _ = false

-- the end of the text
abbrev pub end_by : TokenKind → Parser (Unit {0})
end_by End = λ i. Ok (tt, i)
end_by _ = refuse

-- the text ends here
unfoldable pub end : Parser (Unit {0})
end = λ i. end_by (next i).kind i

-- one more of a list joins those that were found, and none ends it
abbrev pub more_by : {A : Type 0} → (List A → Parser (List A)) → List A → Option A → Parser (List A)
more_by go found None = pure found
more_by go found (Some x) = go (found ++ x ∷ [])

-- at most so many more of a list, by a rule that reads the next one where there is one
unfoldable pub many : {A : Type 0} → Parser (Option A) → ℕ → List A → Parser (List A)
many item zero found = pure found
many item (suc n) found = item >>= more_by (many item n) found

-- as many as there are: each has a token at least
unfoldable pub all_of : {A : Type 0} → Parser (Option A) → Parser (List A)
all_of item = λ i. many item (length i) [] i

-- what a function that reads ensures: the rule's outcome, unless memory fails
abbrev pub Reads : {A : Type 0} → Outcome A → Result (A × Bor (List Token)) MachineFault → Type 0
Reads outcome (Ok p) = outcome ≡ Ok (p.0, p.1.now)
Reads outcome (Err fault) = fault ≢ NoMemory → outcome ≡ Err fault

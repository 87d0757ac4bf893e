-- What stands first in a text has a byte at least, and no more than the text.
use Rattle.std.proofs.Common.{◌≡◌, ℕ, ◌<◌, ◌≤◌, List, [], ◌∷◌, length, take, refl, arith, Bool, true, false, length-take, sym, subst}
use Rattle.std.specs.Prelude.{if◌then◌else◌, nat_lt, ◌==◌, ◌^◌}
use Rattle.std.specs.Char.{is_ascii_digit}
use Rattle.std.specs.List.{prefix_len}
use Rattle.std.proofs.lemmas.Bool.{eqb-true}
use Rattle.std.proofs.lemmas.List.Folds.{length-prefix_len}
use Rattle.std.proofs.lemmas.List.Sums.{prefix_len-le-length}
use Rattle.nys_lex.specs.declared.bytes.Sort.{Sort}
use Rattle.nys_lex.specs.declared.bytes.Sort.TheVariants as sort
use Rattle.nys_lex.specs.declared.lexeme.Lexeme.{Lexeme}
use Rattle.nys_lex.specs.Bytes.{is_blank, is_letter, is_in}
use Rattle.nys_lex.specs.Lexeme.{first_lexeme, number_of, word_of, symbol_of, found_symbol, is_among, words, pairs, singles, run, value_of}
use Rattle.nys_lex.specs.Tokens.{len_of}
use Rattle.nys_lex.proofs.AsciiLemmas.{letter_in_name}

-- the lexeme stands in a text of so many bytes
pub record Stands (n : ℕ) (l : Lexeme) : Type 0 where
  pub some : 1 ≤ len_of l
  pub within : len_of l ≤ n

-- one of two lexemes that stand in the text, by a test
either_stands : (n : ℕ) (v : Bool) (l m : Lexeme) → (v ≡ true → Stands n l) → (v ≡ false → Stands n m) → Stands n (if v then l else m)
either_stands n true l m at_true at_false = at_true refl
either_stands n false l m at_true at_false = at_false refl

-- a run that begins with a byte of its sort has a byte
run_some : (s : Sort) (b : ℕ) (text : List ℕ) → is_in s b ≡ true → 1 ≤ prefix_len (is_in s) (b ∷ text)
run_some s b text e = rw e (omega arith)

-- a comment's first byte is of its line
line_begins : (b : ℕ) → b == 35 ≡ true → is_in sort.Line b ≡ true
line_begins b hash = let is : b ≡ 35 = eqb-true b 35 hash in subst (λ n. is_in sort.Line n ≡ true) (sym is) refl

-- a run stands in its text
run_within : (s : Sort) (text : List ℕ) → length (run s text) ≤ length text
run_within s text = omega (arith, length-prefix_len (is_in s) text, prefix_len-le-length (is_in s) text)

number_stands : (n : ℕ) (digits : List ℕ) → 1 ≤ length digits → length digits ≤ n → Stands n (number_of digits)
unfolding number_of
number_stands n digits some within =
    either_stands n (nat_lt (value_of digits) (2 ^ 63)) _ _ (λ _. record { some = some; within = within }) (λ _. record { some = omega arith; within = omega arith })

word_stands : (n : ℕ) (text : List ℕ) → 1 ≤ length text → length text ≤ n → Stands n (word_of text)
unfolding word_of
word_stands n text some within =
    either_stands n (is_among words text) _ _ (λ _. record { some = some; within = within })
    (λ _. either_stands n (nat_lt 32 (length text)) _ _ (λ _. record { some = omega arith; within = omega arith }) (λ _. record { some = some; within = within }))

-- the first bytes of a text stand in it
front_stands : (k : ℕ) (text : List ℕ) → 1 ≤ k → 1 ≤ length text → Stands (length text) (found_symbol (take k text))
front_stands k text some more = record { some = omega (arith, length-take k text); within = omega (arith, length-take k text) }

symbol_stands : (text : List ℕ) → 1 ≤ length text → Stands (length text) (symbol_of text)
unfolding symbol_of
symbol_stands text some =
    either_stands (length text) (is_among pairs (take 2 text)) _ _ (λ _. front_stands 2 text (omega arith) some)
    (λ _. either_stands (length text) (is_among singles (take 1 text)) _ _ (λ _. front_stands 1 text (omega arith) some) (λ _. record { some = omega arith; within = some }))

-- what stands first stands in its text
pub first_lexeme_stands : (b : ℕ) (text : List ℕ) → Stands (length (b ∷ text)) (first_lexeme (b ∷ text))
unfolding first_lexeme
first_lexeme_stands b text =
    let all : 1 ≤ length (b ∷ text) = omega arith in
    either_stands _ (is_blank b) _ _ (λ _. record { some = omega arith; within = all })
    (λ _. either_stands _ (b == 35) _ _ (λ hash. record { some = run_some sort.Line b text (line_begins b hash); within = prefix_len-le-length (is_in sort.Line) (b ∷ text) })
    (λ _. either_stands _ (is_ascii_digit b) _ _ (λ digit. number_stands _ (run sort.Digit (b ∷ text)) (omega (arith, length-prefix_len (is_in sort.Digit) (b ∷ text), run_some sort.Digit b text digit)) (run_within sort.Digit (b ∷ text)))
    (λ _. either_stands _ (is_letter b) _ _ (λ letter. word_stands _ (run sort.Name (b ∷ text)) (omega (arith, length-prefix_len (is_in sort.Name) (b ∷ text), run_some sort.Name b text (letter_in_name b letter))) (run_within sort.Name (b ∷ text)))
    (λ _. symbol_stands (b ∷ text) all))))

-- the same of a text that is not empty
pub text_stands : (text : List ℕ) (l : Lexeme) → 0 < length text → first_lexeme text ≡ l → (1 ≤ len_of l) × (len_of l ≤ length text)
text_stands [] l some is = absurd (omega arith)
text_stands (b ∷ text) l some is =
    let stands : Stands (length (b ∷ text)) l = subst (Stands (length (b ∷ text))) is (first_lexeme_stands b text) in
    (stands.some, stands.within)

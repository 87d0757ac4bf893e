-- Texts of which each line that tells something is one item.
use Rattle.std.specs.Prelude.{ℕ, ◌-◌, ◌==◌, not, List, [], ◌∷◌, ◌++◌, Result, Ok, Err, length, filter, nat_lt, if◌then◌else◌}
use Rattle.std.specs.List.{enumerate_from}
use Rattle.std.specs.Str.Lines.{lines}
use Rattle.nys_text.specs.Lines.{is_skipped, words_of}
use Rattle.nys_text.specs.declared.reader.TextFault.{TextFault}
use Rattle.nys_text.specs.declared.reader.TextFault.TheVariants.{Line, TooMany}

-- of these lines those that tell something, each with its number; the first has the number given
abbrev pub told_from : ℕ → List (List ℕ) → List (ℕ × List ℕ)
told_from number texts = filter (λ line. not (is_skipped line.1)) (enumerate_from number texts)

-- the lines of a text that tell something, each with its number, counted from 1
abbrev pub told : List ℕ → List (ℕ × List ℕ)
told text = told_from 1 (lines text)

-- the item before those that the lines behind it say
abbrev pub before : {A F : Type 0} → A → Result (List A) F → Result (List A) F
before item (Ok items) = Ok (item ∷ items)
before item (Err fault) = Err fault

-- what a line and those behind it say: a line at fault is answered, then an item past the most
abbrev pub then_more : {A K : Type 0} → ℕ → ℕ → Result A K → Result (List A) (TextFault K) → Result (List A) (TextFault K)
then_more most number (Err kind) rest = Err (Line number kind)
then_more most number (Ok item) rest = if most == 0 then Err TooMany else before item rest

-- what told lines say in order, up to the most, where `says` gives what the words of a line say
abbrev pub reading : {A K : Type 0} → (List (List ℕ) → Result A K) → ℕ → List (ℕ × List ℕ) → Result (List A) (TextFault K)
reading says most [] = Ok []
reading says most (line ∷ more) = then_more most line.0 (says (words_of line.1)) (reading says (most - 1) more)

-- the items with one more, where there are fewer than the most
abbrev pub kept : {A K : Type 0} → ℕ → List A → A → Result (List A) (TextFault K)
kept most items item = if nat_lt (length items) most then Ok (items ++ item ∷ []) else Err TooMany

-- the items with what a line of this number says
abbrev pub with_said : {A K : Type 0} → ℕ → List A → ℕ → Result A K → Result (List A) (TextFault K)
with_said most items number (Err kind) = Err (Line number kind)
with_said most items number (Ok item) = kept most items item

-- the items with what one more line says, where it tells something
abbrev pub with_line : {A K : Type 0} → (List (List ℕ) → Result A K) → ℕ → List A → ℕ → List ℕ → Result (List A) (TextFault K)
with_line says most items number line =
    if is_skipped line then Ok items else with_said most items number (says (words_of line))

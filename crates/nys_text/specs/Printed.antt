-- Numbers as they are printed.
use Rattle.std.specs.Prelude.{ℕ, ℤ, List, [], ◌∷◌, ◌++◌, codes}
use Rattle.std.specs.Fmt.{signed_decimal}
use Rattle.std.specs.List.{flat_map, join_by}

-- the numbers as words, with a space before each
abbrev pub spaced : List ℤ → List ℕ
spaced numbers = flat_map (λ n. codes " " ++ signed_decimal n) numbers

-- the numbers, with a comma between each two
abbrev pub comma_text : List ℤ → List ℕ
comma_text numbers = join_by signed_decimal (codes ",") numbers

-- the numbers of a state: with commas, or `-` where there are none
abbrev pub state_text : List ℤ → List ℕ
state_text [] = codes "-"
state_text (n ∷ ns) = comma_text (n ∷ ns)

-- outputs, each with commas: a space between each two, or `-` where there are none
abbrev pub outs_text : List (List ℤ) → List ℕ
outs_text [] = codes "-"
outs_text (o ∷ os) = join_by comma_text (codes " ") (o ∷ os)

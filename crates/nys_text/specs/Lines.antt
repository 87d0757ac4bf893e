-- Lines of a text: which of them tell something, and the words that they hold.
use Rattle.std.specs.Prelude.{ℕ, Bool, true, not, ◌==◌, ◌||◌, List, Option, None, Some, length, filter, find}
use Rattle.std.specs.List.{slice_split}

-- a space or a tab
abbrev pub is_blank : ℕ → Bool
is_blank b = b == 32 || b == 9

-- the first byte of a line that is not blank is none, or is `#`
abbrev pub is_comment : Option ℕ → Bool
is_comment None = true
is_comment (Some b) = b == 35

-- the line tells nothing
abbrev pub is_skipped : List ℕ → Bool
is_skipped line = is_comment (find (λ b. not (is_blank b)) line)

-- the words of a line: the pieces between blanks, without the empty ones
abbrev pub words_of : List ℕ → List (List ℕ)
words_of line = filter (λ piece. not (length piece == 0)) (slice_split is_blank line)

-- The text that `workload` answers of the last world.
use Rattle.std.specs.Prelude.{ℕ, ◌++◌, List, codes, decimal, length}
use Rattle.nys_rules.specs.World.{Setting, World}
use Rattle.nys_workload_command.specs.Logged.{logged}

-- a word, a number and the line's end
abbrev pub number_line : List ℕ → ℕ → List ℕ
number_line word number = word ++ (decimal number ++ codes "\n")

-- the line of what was asked for
abbrev pub first_line : (seed hosts events : ℕ) → List ℕ
first_line seed hosts events =
    codes "workload " ++ (decimal seed ++ (codes " " ++ (decimal hosts ++ number_line (codes " ") events)))

-- the lines that count what a world has: its packets, the steps of its run, and the entries of all honest replicas
abbrev pub counted : {S : Type 0} → Setting S → World → List ℕ
counted setting w =
    number_line (codes "packets ") (length w.pool)
    ++ (number_line (codes "steps ") (length w.run)
    ++ (number_line (codes "logged ") (logged setting w) ++ codes "end\n"))

-- the whole text, where so many of the events were inputs
unfoldable pub summary : {S : Type 0} → (seed hosts events inputs : ℕ) → Setting S → World → List ℕ
summary seed hosts events inputs setting w =
    first_line seed hosts events ++ (number_line (codes "inputs ") inputs ++ counted setting w)

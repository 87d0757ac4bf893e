-- Functions of hosts and of links, and how one place of them changes.
use Rattle.std.specs.Prelude.{ℕ, ◌==◌, ◌++◌, if◌then◌else◌, List, [], ◌∷◌, slice_index_or}

-- the function with another value at one place
abbrev pub put : {A : Type 0} → (ℕ → A) → ℕ → A → ℕ → A
put f at value x = (if x == at then value else f x)

-- the same for a function of two places
abbrev pub put_at : {A : Type 0} → (ℕ → ℕ → A) → ℕ → ℕ → A → ℕ → ℕ → A
put_at f p h value = put f p (put (f p) h value)

-- the function with one more member in the list at one place
abbrev pub added : {A : Type 0} → (ℕ → List A) → ℕ → A → ℕ → List A
added f at member = put f at (f at ++ member ∷ [])

-- the same for a function of two places
abbrev pub added_at : {A : Type 0} → (ℕ → ℕ → List A) → ℕ → ℕ → A → ℕ → ℕ → List A
added_at f p h member = put_at f p h (f p h ++ member ∷ [])

-- what a list has at each place, with these values past its end
abbrev pub at_each : {A : Type 0} → (ℕ → A) → List A → ℕ → A
at_each past items x = slice_index_or items x (past x)

-- what a table of lists by host has at each place, and nothing past its end
abbrev pub lists_at : {A : Type 0} → List (List A) → ℕ → List A
lists_at rows = at_each (λ _. []) rows

-- what a table of lists by link has at each place, and nothing past its ends
abbrev pub lists_at_both : {A : Type 0} → List (List (List A)) → ℕ → ℕ → List A
lists_at_both rows p = lists_at (lists_at rows p)

-- what a table of numbers by link has at each place, and zero past its ends
abbrev pub numbers_at_both : List (List ℕ) → ℕ → ℕ → ℕ
numbers_at_both rows p = at_each (λ _. 0) (lists_at rows p)

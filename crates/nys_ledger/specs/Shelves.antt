-- Statements by the party that made them, on shelves so that one is found without looking at all.
use Rattle.std.specs.Prelude.{◌≡◌, ℕ, ◌+◌, ◌*◌, ◌%◌, List, [], ◌∷◌, ◌++◌, Contains, slice_index_or, slice_set}
use Rattle.nys_ledger.specs.declared.shelf.Made.{Made}
use Rattle.nys_stmt.specs.declared.statement.Body.{Body}
use Rattle.nys_stmt.specs.declared.statement.Body.TheVariants.{Filled, Attest, Ask, Wedge, Frozen, Open}
use Rattle.nys_stmt.specs.declared.statement.Statement.{Statement}
use Rattle.nys_stmt.specs.Same.{DoClash}

-- a statement that a party made
abbrev pub made_by : ℕ → Statement → Made
made_by party statement = record { party = party; statement = statement }

-- the slot, or the number of the message, that a body is about
abbrev pub number_of : Body → ℕ
number_of (Filled kind h slot content) = slot
number_of (Attest p h k payload) = k
number_of (Ask h slot) = slot
number_of Wedge = 0
number_of (Frozen h slot) = slot
number_of (Open lengths) = 0

-- the shelf on which a party's statement stands, of 4,096
unfoldable pub shelf_of : ℕ → Body → ℕ
shelf_of party body = ((number_of body % 1024) * 33 + party % 33) % 4096

-- what stands on a shelf
abbrev pub shelf_at : List (List Made) → ℕ → List Made
shelf_at shelves i = slice_index_or shelves i []

-- the party made the statement
unfoldable pub Owns : List (List Made) → ℕ → Statement → Type 0
Owns shelves party statement = Contains (shelf_at shelves (shelf_of party statement.body)) (made_by party statement)

-- the shelves with one more statement
unfoldable pub with_made : ℕ → Statement → List (List Made) → List (List Made)
with_made party statement shelves =
    slice_set shelves (shelf_of party statement.body)
    (shelf_at shelves (shelf_of party statement.body) ++ made_by party statement ∷ [])

-- the first of a list that has a fact
pub record IsFirst {X : Type 0} (Has : X → Type 0) (xs : List X) (x : X) : Type 0 where
  pub before : List X
  pub after : List X
  pub among : xs ≡ before ++ x ∷ after
  pub none_before : (y : X) → Contains before y → Has y → ⊥
  pub has : Has x

-- the party made a statement that clashes with this one
pub record IsAlike (party : ℕ) (statement : Statement) (made : Made) : Type 0 where
  pub of : made.party ≡ party
  pub clashes : DoClash made.statement statement

-- the first statement that the party made of those that clash with this one
unfoldable pub Shares : List (List Made) → (party : ℕ) → (statement first : Statement) → Type 0
Shares shelves party statement first =
    IsFirst (IsAlike party statement) (shelf_at shelves (shelf_of party statement.body)) (made_by party first)

-- the party makes this one, and had made none that clashes with the statement
pub record BeginsToShare (shelves : List (List Made)) (maker : ℕ) (made : Statement) (party : ℕ)
    (statement first : Statement) : Type 0 where
  pub is : made_by party first ≡ made_by maker made
  pub clashes : DoClash first statement
  pub none_before : (other : Statement) → Owns shelves party other → DoClash other statement → ⊥

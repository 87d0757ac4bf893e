-- The ledger of what parties made, and forgeries. Nothing is asked of a liar.
use Rattle.std.specs.Prelude.{◌≡◌, ℕ, if◌then◌else◌, List, [], ◌∷◌, ◌++◌, map, Contains}
use Rattle.nys_stmt.specs.declared.statement.Statement.{Statement}
use Rattle.nys_stmt.specs.Same.{DoClash}
use Rattle.nys_rules.specs.Packets.{Done}
use Rattle.nys_rules.specs.Scope.{olympus}

-- a party with a statement that it made
pub record Entry : Type 0 where
  pub party : ℕ
  pub statement : Statement

-- the ledger after a party made statements
abbrev pub with_made : ℕ → List Statement → List Entry → List Entry
with_made party made ledger = ledger ++ map (λ s. record { party = party; statement = s }) made

-- the party made the statement
abbrev pub HasMade : List Entry → ℕ → Statement → Type 0
HasMade ledger party statement = Contains ledger (record { party = party; statement = statement })

-- the party made no statement that clashes with this one
abbrev pub NoneClashes : List Entry → ℕ → Statement → Type 0
NoneClashes ledger party statement = (other : Statement) → HasMade ledger party other → DoClash other statement → ⊥

-- the first statement that a party made of those that clash with this one
pub record IsFirstClash (ledger : List Entry) (party : ℕ) (statement made : Statement) : Type 0 where
  pub before : List Entry
  pub after : List Entry
  pub among : ledger ≡ before ++ record { party = party; statement = made } ∷ after
  pub none_before : NoneClashes before party statement
  pub clashes : DoClash made statement

-- the makers that a party accepted, the Olympus last
abbrev pub makers_told : Done → List ℕ
makers_told done = done.accepted ++ (if done.olympus then olympus ∷ [] else [])

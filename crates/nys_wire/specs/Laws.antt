-- What the spellings are good for.
use Rattle.std.specs.Prelude.{◌≡◌, ℕ, List, ◌++◌}
use Rattle.nys_stmt.specs.declared.records.Record.{Record}
use Rattle.nys_stmt.specs.declared.statement.Statement.{Statement}
use Rattle.nys_stmt.specs.Ranges.{IsStatement}
use Rattle.nys_stmt.specs.Records.{IsRecord, record_spelling}
use Rattle.nys_stmt.specs.Same.{AreAlike}
use Rattle.nys_stmt.specs.Spelling.{spelling}

-- no spelling of a record begins another, so different records have different spellings
abbrev pub OneRecord : Type 0
OneRecord = (a b : Record) (x y : List ℕ) → IsRecord a → IsRecord b → record_spelling a ++ x ≡ record_spelling b ++ y → (a ≡ b) × (x ≡ y)

-- statements that are alike have one spelling
abbrev pub AlikeIsSpelled : Type 0
AlikeIsSpelled = (a b : Statement) → AreAlike a b → spelling a ≡ spelling b

-- no spelling of a statement begins another, and statements of one spelling are alike
abbrev pub OneSpelling : Type 0
OneSpelling = (a b : Statement) (x y : List ℕ) → IsStatement a → IsStatement b → spelling a ++ x ≡ spelling b ++ y → AreAlike a b × (x ≡ y)

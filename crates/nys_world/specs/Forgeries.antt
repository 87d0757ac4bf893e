-- What is made of the makers that a party accepted: all is true, or the world ends.
use Rattle.std.specs.Prelude.{◌≡◌, ℕ, true, List, Option, Some, None}
use Rattle.nys_stmt.specs.declared.statement.Statement.{Statement}
use Rattle.nys_rules.specs.declared.notice.End.{End}
use Rattle.nys_rules.specs.Forged.{Entry, HasMade}
use Rattle.nys_rules.specs.Happening.{AreTrue, IsForged, TellsOf}
use Rattle.nys_rules.specs.World.{is_honest, Setting}

-- the maker doesn't lie, and never made the statement
abbrev pub NeverMade : {S : Type 0} → Setting S → List Entry → Statement → ℕ → Type 0
NeverMade setting ledger statement maker = (is_honest setting maker ≡ true) × (HasMade ledger maker statement → ⊥)

-- the maker made the statement, where it doesn't lie
abbrev pub MadeIfHonest : {S : Type 0} → Setting S → List Entry → Statement → ℕ → Type 0
MadeIfHonest setting ledger statement maker = is_honest setting maker ≡ true → HasMade ledger maker statement

-- no maker of the statement, where there is one, is honest without having made it
abbrev pub AreTrueWhere : {S : Type 0} → Setting S → List Entry → Option Statement → List ℕ → Type 0
AreTrueWhere setting ledger None makers = Unit {0}
AreTrueWhere setting ledger (Some statement) makers = AreTrue setting ledger statement makers

-- the end of this event tells of the first maker that is honest without having made the statement: a clash, or
-- else a forgery
abbrev pub TellsForged : {S : Type 0} → Setting S → List Entry → (event taker : ℕ) → Option Statement → List ℕ → End → Type 0
TellsForged setting ledger event taker None makers end = ⊥
TellsForged setting ledger event taker (Some statement) makers end =
    (maker : ℕ) × IsForged setting ledger statement makers maker × TellsOf ledger event maker taker statement end

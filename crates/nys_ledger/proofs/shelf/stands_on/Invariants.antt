-- Nothing before is the statement.
use Rattle.std.proofs.Common.{◌≡◌, ◌<◌, ℕ, get_or}
use Rattle.nys_ledger.specs.Shelves.{made_by}
use Rattle.nys_ledger.proofs.shelf.stands_on.Given as goal

abbrev pub invariant-loop-made : goal.invariant-loop-made
invariant-loop-made l =
    (k : ℕ) → k < l.made-index → get_or l.shelf k (made_by l.party l.statement) ≡ made_by l.party l.statement → ⊥

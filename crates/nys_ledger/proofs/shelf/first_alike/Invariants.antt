-- Nothing before clashes.
use Rattle.std.proofs.Common.{take}
use Rattle.nys_ledger.specs.Shelves.{IsAlike}
use Rattle.nys_ledger.proofs.FirstLemmas.{HasNone}
use Rattle.nys_ledger.proofs.shelf.first_alike.Given as goal

abbrev pub invariant-loop-made : goal.invariant-loop-made
invariant-loop-made l = HasNone (IsAlike l.party l.statement) (take l.made-index l.shelf)

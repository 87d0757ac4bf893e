-- What was looked at last is the first that clashes, or nothing on the shelf does.
use Rattle.std.proofs.Common.{◌≡◌, subst, arith}
use Rattle.std.proofs.lemmas.List.{take_all}
use Rattle.nys_ledger.specs.Shelves.{IsAlike, IsFirst, made_by}
use Rattle.nys_ledger.specs.declared.shelf.Made.{Made}
use Rattle.nys_ledger.proofs.FirstLemmas.{at_get, first_at, HasNone}
use Rattle.nys_ledger.proofs.shelf.first_alike.Goals as goal

pub returns-then-is_alike-clause-some : goal.returns-then-is_alike-clause-some
returns-then-is_alike-clause-some c =
    let found = c.is_alike.ensures.0 c.if-is_alike.true in
    let here = at_get c.args.shelf.now c.loop-made.made-index c.made-item.result c.loop-made-test.true c.made-item.is in
    let first = first_at (IsAlike c.args.party c.args.statement.now) c.args.shelf.now c.loop-made.made-index c.made-item.result here
    c.loop-made.invariant found in
    by c.made-item.result found.of first
  where
    by : (made : Made) → made.party ≡ c.args.party
        → IsFirst (IsAlike c.args.party c.args.statement.now) c.args.shelf.now made
        → IsFirst (IsAlike c.args.party c.args.statement.now) c.args.shelf.now (made_by c.args.party made.statement)
    by made of first =
        subst (λ p. IsFirst (IsAlike c.args.party c.args.statement.now) c.args.shelf.now (made_by p made.statement)) of first

pub returns-clause-none : goal.returns-clause-none
returns-clause-none c =
    subst (HasNone (IsAlike c.args.party c.args.statement.now))
    (take_all c.loop-made.made-index c.args.shelf.now (omega (arith, c.loop-made-test.false))) c.loop-made.invariant

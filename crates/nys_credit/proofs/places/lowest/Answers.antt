-- The first of the seats that are left is the first of all.
use Rattle.std.proofs.Common.{rules}
use Rattle.std.specs.Prelude.{is_some}
use Rattle.nys_credit.proofs.PlaceLemmas.{is_first, is_none}
use Rattle.nys_credit.proofs.places.lowest.Goals as goal

pub returns-then-is_some-clause-found : goal.returns-then-is_some-clause-found
returns-then-is_some-clause-found c =
    is_first is_some c.loop-p.p c.args.heads.now c.loop-p.invariant.0 (search rules) (search rules)

pub returns-clause-found : goal.returns-clause-found
returns-clause-found c =
    is_none is_some c.loop-p.p c.args.heads.now c.loop-p.invariant.0 (search rules)

use Rattle.std.proofs.Common.{arith}
use Rattle.nys_node.proofs.MaskLemmas.{next_left, none_left, none_past}
use Rattle.nys_node.proofs.links.next_host.Goals as goal

-- it is past the last host
pub returns-then-from-clause-none : goal.returns-then-from-clause-none
returns-then-from-clause-none c = none_past c.args.mask c.args.from c.if-from.true

-- no bit is left
pub returns-then-rest-eq0-clause-none : goal.returns-then-rest-eq0-clause-none
returns-then-rest-eq0-clause-none c = none_left c.args.mask c.args.from c.if-rest-eq0.true

-- the lowest that is left
pub returns-clause-found : goal.returns-clause-found
returns-clause-found c = next_left c.args.mask c.args.from c.ranges.mask.fits (omega (arith, c.ranges.mask.fits)) (omega (arith, c.if-rest-eq0.false))

use Rattle.std.proofs.Common.{◌≡◌, rules}
use Rattle.std.specs.Prelude.{[]}
use Rattle.nys_olympus.proofs.Rows.{row_table}
use Rattle.nys_olympus.proofs.olympus.no_logs.Goals as goal

-- there were as many turns as there are hosts
pub returns : goal.returns
returns c = let all : c.loop.counter ≡ 32 = search rules in row_table c.loop.logs.items c.loop.counter [] c.loop.invariant all

-- One place of the row changes.
use Rattle.std.proofs.Common.{◌<◌, length, arith}
use Rattle.nys_attest.proofs.LinkLemmas.{row_put}
use Rattle.nys_attest.proofs.links.LinkRow.put.Goals as goal

pub returns : goal.returns
returns c q =
    let inside : c.args.p < length c.self.inside.ranges.items = omega (arith, c.requires, c.self.invariant) in
    rw (← c.self.view_is) (row_put c.self.inside.ranges.items c.args.p c.args.range inside q)

-- The range of the link changes, and no other.
use Rattle.std.proofs.Common.{◌<◌, length, arith}
use Rattle.nys_attest.proofs.LinkLemmas.{range_put}
use Rattle.nys_attest.proofs.links.Links.put.Goals as goal

pub returns : goal.returns
returns c q g =
    let inside : c.args.h < length c.self.inside.rows.items = omega (arith, c.requires.host, c.self.invariant) in
    rw (← c.self.view_is)
    (range_put c.self.inside.rows.items c.args.p c.args.h c.index_mut.result.now c.put.new.self c.args.range inside
    c.index_mut.ensures.value c.put.ensures q g)

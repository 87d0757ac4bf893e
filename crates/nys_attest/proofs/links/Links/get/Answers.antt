-- The row of the receiver, then the range of the sender.
use Rattle.std.proofs.Common.{◌<◌, length, ◌∙◌, ap, arith}
use Rattle.nys_attest.specs.Ranges.{link_at}
use Rattle.nys_attest.proofs.LinkLemmas.{range_of}
use Rattle.nys_attest.proofs.links.Links.get.Goals as goal

pub returns : goal.returns
returns c =
    let inside : c.args.h < length c.self.inside.rows.items = omega (arith, c.requires.host, c.self.invariant) in
    c.get.ensures ∙ range_of c.self.inside.rows.items c.args.p c.args.h c.index.result.now inside c.index.ensures
    ∙ ap (λ t. link_at t c.args.p c.args.h) c.self.view_is

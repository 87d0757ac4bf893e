-- The bit of one host, joined to the mask, adds that host alone.
use Rattle.std.proofs.Common.{ap, ◌∙◌, bit_or}
use Rattle.nys_hosts.specs.Masks.{in_mask}
use Rattle.nys_hosts.proofs.MaskLemmas.{in_mask-or}
use Rattle.nys_hosts.proofs.set.HostSet.with.Goals as goal

pub returns : goal.returns
returns c k =
    ap (λ bit. in_mask (bit_or c.args.self.now.bits bit) k) c.bit_of.ensures
    ∙ in_mask-or c.args.self.now.bits c.args.h k c.requires

-- The bits that both masks have.
use Rattle.nys_hosts.proofs.MaskLemmas.{in_mask-and}
use Rattle.nys_hosts.proofs.set.HostSet.meet.Goals as goal

pub returns : goal.returns
returns c h = in_mask-and c.args.self.now.bits c.args.other.now.bits h

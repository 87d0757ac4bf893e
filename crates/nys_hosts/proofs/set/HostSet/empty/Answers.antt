-- Zero has no bit.
use Rattle.nys_hosts.proofs.MaskLemmas.{in_mask-zero}
use Rattle.nys_hosts.proofs.set.HostSet.empty.Goals as goal

pub returns : goal.returns
returns c = in_mask-zero

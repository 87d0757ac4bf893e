use Rattle.nys_hosts.specs.Sets.{members}
use Rattle.nys_node.proofs.HandleLemmas.{dropped_as}
use Rattle.nys_node.proofs.HostLemmas.{no_members}
use Rattle.nys_node.proofs.handle.dropped.Goals as goal

-- nothing was done, and no host's tag accepted
pub returns : goal.returns
returns c =
    dropped_as c.args.cause c.new-2.result.items c.new.result.items c.new-3.result.items (members c.empty.result)
    c.new-2.ensures.items c.new.ensures.items c.new-3.ensures.items (no_members c.empty.result c.empty.ensures)

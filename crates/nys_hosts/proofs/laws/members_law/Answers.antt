-- The members are the hosts that the set has.
use Rattle.nys_hosts.specs.Sets.{has}
use Rattle.nys_hosts.proofs.ListLemmas.{lists_passing}
use Rattle.nys_hosts.proofs.laws.members_law.Goals as goal

pub returns : goal.returns
returns c = lists_passing (has c.args.set.now)

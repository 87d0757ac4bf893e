-- Each maker of a list counts one, and the hosts that pass are a part of the range of all.
use Rattle.nys_hosts.proofs.CountLemmas.{AtLeast-from_hosts_with, AtLeast-hosts_with}
use Rattle.nys_hosts.proofs.ListLemmas.{counts_different, counts_listed, lists_passing}
use Rattle.nys_hosts.proofs.laws.makers_law.Goals as goal

pub returns-clause-exact : goal.returns-clause-exact
returns-clause-exact c n p = (AtLeast-hosts_with n p, AtLeast-from_hosts_with n p)

pub returns-clause-listed : goal.returns-clause-listed
returns-clause-listed c = counts_listed

pub returns-clause-passing : goal.returns-clause-passing
returns-clause-passing c = counts_different

pub returns-clause-lists : goal.returns-clause-lists
returns-clause-lists c = lists_passing

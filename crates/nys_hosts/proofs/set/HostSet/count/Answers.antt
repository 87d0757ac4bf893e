-- Each host is a bit that is set.
use Rattle.std.proofs.Common.{rules, sym, ◌∙◌}
use Rattle.nys_hosts.specs.Sets.{has}
use Rattle.nys_hosts.proofs.ListLemmas.{lists_passing}
use Rattle.nys_hosts.proofs.MaskLemmas.{count_ones-mask}
use Rattle.nys_hosts.proofs.set.HostSet.count.Goals as goal

pub returns-clause-hosts : goal.returns-clause-hosts
returns-clause-hosts c = count_ones-mask _ (search rules)

pub returns-clause-members : goal.returns-clause-members
returns-clause-members c =
    count_ones-mask _ (search rules) ∙ sym (lists_passing (has c.args.self.now)).count

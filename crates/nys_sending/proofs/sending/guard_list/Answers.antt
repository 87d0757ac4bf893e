use Rattle.std.proofs.Common.{◌≡◌, subst, sym}
use Rattle.std.proofs.lemmas.Result.{IfOk-weaker}
use Rattle.nys_hosts.specs.Sets.{members}
use Rattle.nys_sending.specs.Receivers.{AreReceivers}
use Rattle.nys_sending.proofs.ReceiverLemmas.{members_rule}
use Rattle.nys_sending.proofs.sending.guard_list.Goals as goal

-- the hosts of a set are receivers
pub returns-clause-rule : goal.returns-clause-rule
returns-clause-rule g c = IfOk-weaker c.members.result (λ hosts. hosts.items ≡ members c.guards_of.result) (λ hosts. AreReceivers hosts.items)
    (λ hosts same. subst AreReceivers (sym same) (members_rule c.guards_of.result)) c.members.ensures

use Rattle.std.proofs.Common.{arith}
use Rattle.nys_hosts.proofs.CountLemmas.{hosts_with-le}
use Rattle.nys_hosts.specs.Sets.{has}
use Rattle.nys_config.proofs.Scopes.{few_liars}
use Rattle.nys_node.proofs.Quorums.{quorum_is}
use Rattle.nys_config.specs.Scopes.{scope_of}
use Rattle.nys_node.proofs.node.Node.quorum.Goals as goal

-- there are 32 hosts
pub quorum-requires-clause-guards : goal.quorum-requires-clause-guards
quorum-requires-clause-guards g c = omega (arith, c.count.ensures.hosts, hosts_with-le (has c.guards_of.result))

-- a configuration has few liars
pub quorum-requires-clause-liars : goal.quorum-requires-clause-liars
quorum-requires-clause-liars g c = omega (
  arith,
  c.threshold.ensures,
  few_liars (g.P.Protocol.rules c.args.cx.now.protocol) c.args.cx.now (g.P.Protocol.rules c.args.cx.now.protocol).hosts c.args.self.now.epoch c.args.h c.requires.config,
)

-- the node is in the view's epoch
pub returns : goal.returns
returns g c = λ v m.
    rw (← m.epoch) (quorum_is (scope_of (g.P.Protocol.rules c.args.cx.now.protocol) c.args.cx.now) c.args.self.now.epoch c.args.h _ _ _ c.guards_of.result
    c.count.ensures.hosts c.guards_of.ensures c.threshold.ensures c.quorum.ensures)

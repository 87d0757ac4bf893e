use Rattle.std.proofs.Common.{arith}
use Rattle.nys_hosts.proofs.CountLemmas.{hosts_with-le}
use Rattle.nys_hosts.specs.Sets.{has}
use Rattle.nys_config.proofs.Scopes.{few_liars}
use Rattle.nys_olympus.proofs.olympus.Olympus.quorum.Goals as goal

-- guards are hosts
pub quorum-requires-clause-guards : goal.quorum-requires-clause-guards
quorum-requires-clause-guards g c = omega (arith, c.count.ensures.hosts, hosts_with-le (has c.guards_of.result))

-- no host stands more than 5 liars
pub quorum-requires-clause-liars : goal.quorum-requires-clause-liars
quorum-requires-clause-liars g c =
    let rules = g.P.Protocol.rules c.args.cx.now.protocol in
    omega (arith, c.threshold.ensures, few_liars rules c.args.cx.now rules.hosts c.args.self.now.epoch c.args.h c.requires.config)

-- a neighbour is a host, so the message joins two hosts
use Rattle.std.proofs.Common.{◌≡◌, ap, arith}
use Rattle.nys_source.proofs.HeldLemmas.{hosts-push}
use Rattle.nys_source.proofs.system.System.send.Goals as goal

pub push-requires-clause-receiver : goal.push-requires-clause-receiver
push-requires-clause-receiver g c =
    let ends = c.hosts-hosts.ensures.shape.within c.args.h c.args.to c.requires.allowed in
    omega (arith, ends.1, c.hosts-hosts.ensures.few)

pub invariant_of-self-2 : goal.invariant_of-self-2
invariant_of-self-2 g c =
    let same : (g.P.Protocol.rules c.self.inside.protocol).hosts ≡ (g.P.Protocol.rules c.args.self.now.0).hosts = ap (λ v. (g.P.Protocol.rules v.0).hosts) c.self.view_is in
    let ends = c.hosts-hosts.ensures.shape.within c.args.h c.args.to c.requires.allowed in
    (c.self.invariant.0, hosts-push _ c.self.inside.messages.items _ c.args.h c.args.to c.self.invariant.1 (omega (arith, same, ends.0)) (omega (arith, same, ends.1)) c.in_ok-push-2.ensures.items)

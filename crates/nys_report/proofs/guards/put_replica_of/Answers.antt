-- the line of a replica is that of its log, and a host without one isn't known
use Rattle.std.proofs.Common.{arith}
use Rattle.std.proofs.lemmas.Result.{on_ok_weaker}
use Rattle.nys_config.specs.Scopes.{scope_of}
use Rattle.nys_report.proofs.ReplicaLemmas.{has_none, has_replica, none_printed, one_printed}
use Rattle.nys_report.proofs.guards.put_replica_of.Goals as goal

pub returns-in-Some : goal.returns-in-Some
returns-in-Some g c =
    let rules = g.P.Protocol.rules c.args.cx.now.protocol in
    let cx = c.args.cx.now in
    let h = c.args.h in
    on_ok_weaker c.put_replica.result (λ printed v means.
    let stands = has_replica rules cx c.args.node.now v h c.in-Some.replica.now means c.in-Some.ensures.some in
    one_printed rules cx c.args.g v h c.live.result c.args.out.now c.put_replica.new.out
    stands.1 (c.live.ensures.value (scope_of rules cx) v means) (printed (v.logs h) stands.0))
    c.put_replica.ensures

pub returns-in-None : goal.returns-in-None
returns-in-None g c = λ v means.
    let rules = g.P.Protocol.rules c.args.cx.now.protocol in
    let cx = c.args.cx.now in
    let rows = means.rows in
    let none = c.in-None.ensures.none (omega (arith, rows, c.requires)) in
    none_printed rules cx c.args.g v c.args.h c.args.out.now (has_none rules cx c.args.node.now v c.args.h means none)

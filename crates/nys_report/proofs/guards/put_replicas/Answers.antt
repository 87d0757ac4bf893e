-- the graph's hosts are those of the protocol
use Rattle.std.proofs.Common.{◌∙◌}
use Rattle.std.proofs.lemmas.Result.{on_ok_weaker}
use Rattle.nys_report.proofs.ReplicaLemmas.{all_printed}
use Rattle.nys_report.proofs.guards.put_replicas.Goals as goal

pub returns : goal.returns
returns g c =
    let rules = g.P.Protocol.rules c.args.cx.now.protocol in
    on_ok_weaker c.put_replicas_below.result (λ printed v means.
    all_printed rules c.args.cx.now c.args.g v c.hosts.result c.args.out.now c.put_replicas_below.new.out
    (c.hosts.ensures.count ∙ c.graph.ensures.hosts) (printed v means))
    c.put_replicas_below.ensures

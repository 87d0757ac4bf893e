-- the hosts of the graph are all
use Rattle.std.proofs.Common.{ap, ◌∙◌}
use Rattle.nys_workload_command.proofs.LoggedLemmas.{all_logged}
use Rattle.nys_workload_command.proofs.logged.logged.Goals as goal

pub returns : goal.returns
returns g c = λ w is.
    let stage = c.args.world.now.stage in
    all_logged (g.P.Protocol.rules stage.cx.protocol) stage w c.hosts.result c.logged_below.result
    (c.hosts.ensures.count ∙ c.graph.ensures.hosts ∙ ap (λ cx. (g.P.Protocol.rules cx.protocol).hosts) c.config.ensures)
    (c.logged_below.ensures w is)

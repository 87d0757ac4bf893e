-- the sections make the report of the world that spells its logs, which is that of each
use Rattle.std.proofs.Common.{◌≤◌, arith, subst}
use Rattle.std.proofs.lemmas.Result.{on_ok_weaker}
use Rattle.nys_report.proofs.ReportLemmas.{sections_told, told_of_each}
use Rattle.nys_report.proofs.report.report_text.Goals as goal

pub returns : goal.returns
returns g c =
    let world = c.args.world.now in
    let rules = g.P.Protocol.rules world.stage.cx.protocol in
    let few = subst (λ cx. (g.P.Protocol.rules cx.protocol).hosts ≤ 32) c.config.ensures
    (omega (arith, c.hosts-hosts.ensures.shape.few, c.graph.ensures.hosts)) in
    on_ok_weaker c.put_noted.result (λ noted v other.
    let w = c.requires.0 in
    let is = c.requires.1 in
    told_of_each rules world w v c.args.out.now c.put_noted.new.out few is other
    (sections_told rules world w c.args.out.now c.put_system.new.out c.put_nodes.new.out c.put_noted.new.out
    (c.in_ok-put_system.ensures w is) (c.in_ok-put_nodes.ensures w is c.requires.2) (noted w is)))
    c.put_noted.ensures

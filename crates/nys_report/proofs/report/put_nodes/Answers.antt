-- the title, then the lines of all nodes
use Rattle.std.proofs.Common.{◌++◌, ap, ◌∙◌}
use Rattle.std.proofs.lemmas.Result.{on_ok_weaker}
use Rattle.std.specs.List.{range_with_len}
use Rattle.std.specs.Prelude.{codes}
use Rattle.nys_report.proofs.ReportLemmas.{titled}
use Rattle.nys_report.proofs.ShownLemmas.{all_guards}
use Rattle.nys_report.proofs.report.put_nodes.Goals as goal
use Rattle.nys_printed.specs.Report.{guards_of}
use Rattle.nys_world.specs.Shows.{setting_of}

pub returns : goal.returns
returns g c =
    let stage = c.args.world.now.stage in
    let rules = g.P.Protocol.rules stage.cx.protocol in
    let setting = setting_of rules stage in
    on_ok_weaker c.put_guards.result (λ printed w is spells.
    titled c.args.out.now c.put.new.self c.put_guards.new.out (codes "guards\n") (guards_of setting w (range_with_len 0 c.args.hosts))
    c.in_ok-put.ensures.ok (printed w is spells)
    ∙ ap (λ t. c.args.out.now ++ (codes "guards\n" ++ t)) (all_guards rules stage w c.args.hosts c.requires.all))
    c.put_guards.ensures

-- the steps and the stops at hand are the printed run
use Rattle.std.proofs.Common.{◌≡◌, ◌++◌, ap, subst, sym, ◌∙◌}
use Rattle.std.proofs.lemmas.Result.{on_ok_weaker}
use Rattle.nys_config.specs.Scopes.{scope_of}
use Rattle.nys_hosts.specs.Sets.{has}
use Rattle.nys_report.proofs.ReportLemmas.{printed_here, run_here}
use Rattle.nys_report.proofs.report.put_system.Goals as goal
use Rattle.nys_report.specs.Countable.{IsCountable}
use Rattle.nys_printed.specs.Lines.{run_and_hosts}
use Rattle.nys_report.specs.Parts.{stopped_run}
use Rattle.nys_source.specs.Runs.{IsRun}

pub put_stopped_run-requires-clause-run : goal.put_stopped_run-requires-clause-run
put_stopped_run-requires-clause-run g c =
    let run = stopped_run c.args.hosts (has c.retired-retired.result) c.run.result.now in
    subst (λ cx. IsRun (g.P.Protocol.rules cx.protocol) run) (sym c.config.ensures)
    (run_here (g.P.Protocol.rules c.args.world.now.stage.cx.protocol) c.args.world.now c.args.hosts (has c.retired-retired.result) c.run.result.now
    c.requires.all c.requires.few c.requires.spelled
    (λ w is. c.retired-retired.ensures (scope_of (g.P.Protocol.rules c.args.world.now.stage.cx.protocol) c.args.world.now.stage.cx) w.olympus (c.olympus.ensures w is)) c.run.ensures).0

pub put_stopped_run-requires-clause-few : goal.put_stopped_run-requires-clause-few
put_stopped_run-requires-clause-few g c =
    let run = stopped_run c.args.hosts (has c.retired-retired.result) c.run.result.now in
    subst (λ cx. IsCountable (g.P.Protocol.rules cx.protocol) run) (sym c.config.ensures)
    (run_here (g.P.Protocol.rules c.args.world.now.stage.cx.protocol) c.args.world.now c.args.hosts (has c.retired-retired.result) c.run.result.now
    c.requires.all c.requires.few c.requires.spelled
    (λ w is. c.retired-retired.ensures (scope_of (g.P.Protocol.rules c.args.world.now.stage.cx.protocol) c.args.world.now.stage.cx) w.olympus (c.olympus.ensures w is)) c.run.ensures).1

pub returns : goal.returns
returns g c =
    let rules = g.P.Protocol.rules c.args.world.now.stage.cx.protocol in
    let run = stopped_run c.args.hosts (has c.retired-retired.result) c.run.result.now in
    on_ok_weaker c.put_stopped_run.result (λ printed w is.
    subst (λ cx. c.put_stopped_run.new.out ≡ c.args.out.now ++ run_and_hosts (g.P.Protocol.rules cx.protocol) run) c.config.ensures printed
    ∙ ap (λ steps. c.args.out.now ++ run_and_hosts rules steps)
    (sym (printed_here rules c.args.world.now w c.args.hosts (has c.retired-retired.result) c.run.result.now
    c.requires.all (c.retired-retired.ensures (scope_of (g.P.Protocol.rules c.args.world.now.stage.cx.protocol) c.args.world.now.stage.cx) w.olympus (c.olympus.ensures w is)) (c.run.ensures w is))))
    c.put_stopped_run.ensures

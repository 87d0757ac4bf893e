-- the parts are printed of what the world has
use Rattle.std.proofs.lemmas.Result.{on_ok_weaker}
use Rattle.nys_report.proofs.TraceLemmas.{parts_told}
use Rattle.nys_report.proofs.tracing.trace_text.Goals as goal
use Rattle.nys_world.specs.Shows.{setting_of}

pub returns : goal.returns
returns g c =
    let world = c.args.world.now in
    let setting = setting_of (g.P.Protocol.rules world.stage.cx.protocol) world.stage in
    on_ok_weaker c.report_text.result (λ reported w is.
    parts_told setting w c.args.out.now c.put_packets.new.out c.put_injected.new.out c.put_takes.new.out c.report_text.new.out
    c.pool.result.now c.injected.result.now c.takes.result.now (c.pool.ensures w is) (c.injected.ensures w is) (c.takes.ensures c.requires.traced w is)
    c.in_ok-put_packets.ensures c.in_ok-put_injected.ensures c.in_ok-put_takes.ensures (reported w is))
    c.report_text.ensures

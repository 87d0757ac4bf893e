-- A line more is that of the next host.
use Rattle.nys_guards.specs.Good.{guards_in}
use Rattle.nys_guard_commands.specs.Planned.{epoch_line, host_line}
use Rattle.nys_guard_commands.proofs.LinesLemmas.{lines_more}
use Rattle.nys_guard_commands.proofs.planned.put_epoch.Goals as goal

pub loop-h-preserved : goal.loop-h-preserved
loop-h-preserved c =
    lines_more (host_line (guards_in c.args.graph.now.guards)) c.loop-h.h c.args.text.now
    (epoch_line c.args.e c.args.t c.args.graph.now.credit) c.loop-h.text c.put_host_line.new.text
    c.loop-h.invariant c.in_ok-put_host_line.ensures

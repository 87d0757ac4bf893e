-- the stop of one host joins, and the others are left
use Rattle.std.proofs.Common.{◌∙◌}
use Rattle.nys_hosts.specs.Sets.{has}
use Rattle.nys_report.proofs.StopLemmas.{stops_on}
use Rattle.nys_report.proofs.stopping.put_stops.Goals as goal

pub loop-h-preserved : goal.loop-h-preserved
loop-h-preserved c =
    stops_on (has c.args.retired) c.loop-h.h c.args.hosts c.loop-h.run.items c.put_stop.new.run.items
    c.loop-h-test.true c.in_ok-put_stop.ensures
    ∙ c.loop-h.invariant

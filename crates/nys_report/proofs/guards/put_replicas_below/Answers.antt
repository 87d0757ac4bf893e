-- what one host has is printed, and the others are left
use Rattle.std.proofs.Common.{◌∙◌}
use Rattle.nys_config.specs.Scopes.{scope_of}
use Rattle.nys_report.proofs.PickedLemmas.{picked_on}
use Rattle.nys_report.proofs.guards.put_replicas_below.Goals as goal
use Rattle.nys_printed.specs.Report.{replica_line}
use Rattle.nys_report.specs.Parts.{log_gives}

pub loop-h-preserved : goal.loop-h-preserved
loop-h-preserved g c = λ v means.
    let scope = scope_of (g.P.Protocol.rules c.args.cx.now.protocol) c.args.cx.now in
    picked_on (replica_line scope (log_gives scope v) c.args.g v) v.known c.loop-h.h c.args.hosts c.loop-h.out c.put_replica_of.new.out
    c.loop-h-test.true (c.in_ok-put_replica_of.ensures v means)
    ∙ c.loop-h.invariant v means

-- One entry after another, of those that the node can tell.
use Rattle.std.proofs.Common.{◌≤◌, ◌∙◌, ap, length, arith}
use Rattle.nys_config.specs.Scopes.{scope_of}
use Rattle.nys_node.proofs.ReportLemmas.{report_past}
use Rattle.nys_node.specs.Told.{reports_from, told}
use Rattle.nys_rules.specs.Packets.{joined}
use Rattle.nys_node.proofs.node.Node.report_entries.Goals as goal

-- all are left
pub loop-slot-init : goal.loop-slot-init
loop-slot-init g c = λ v m.
    let scope = scope_of (g.P.Protocol.rules c.args.cx.now.protocol) c.args.cx.now in
    let first = c.told_from-slot.ensures scope v m in
    (ap (λ n. joined c.args.out.now (told scope v (reports_from v c.args.h n))) first, omega (arith, first))

-- none is left
pub returns : goal.returns
returns g c = λ v m.
    let scope = scope_of (g.P.Protocol.rules c.args.cx.now.protocol) c.args.cx.now in
    let past : length (v.logs c.args.h) ≤ c.loop-slot.slot = omega (arith, c.log_len-slot-end.ensures scope v m, c.loop-slot-test.false) in
    report_past scope v c.args.h c.loop-slot.slot c.loop-slot.out past ∙ (c.loop-slot.invariant v m).0

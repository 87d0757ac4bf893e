use Rattle.std.proofs.Common.{◌∙◌, sym}
use Rattle.nys_config.specs.Scopes.{scope_of}
use Rattle.nys_node.proofs.ReportLemmas.{untold}
use Rattle.nys_node.proofs.node.Node.report_live.Goals as goal

-- nothing is told about a host that isn't live
pub returns-else-live : goal.returns-else-live
returns-else-live g c = λ v m.
    let scope = scope_of (g.P.Protocol.rules c.args.cx.now.protocol) c.args.cx.now in
    untold scope v c.args.out.now c.args.h (sym (c.live.ensures.value scope v m) ∙ c.if-live.false)

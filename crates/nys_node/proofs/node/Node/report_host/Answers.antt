use Rattle.nys_config.specs.Scopes.{scope_of}
use Rattle.nys_rules.specs.Ending.{entry_reports, vote_report}
use Rattle.nys_stmt.specs.declared.statement.Body.TheVariants as body
use Rattle.nys_node.proofs.ReportLemmas.{testimony_is, testimony_parts}
use Rattle.nys_node.proofs.node.Node.report_host.Goals as goal

-- entries, then the vote, then the end
pub returns : goal.returns
returns g c = λ v m.
    let scope = scope_of (g.P.Protocol.rules c.args.cx.now.protocol) c.args.cx.now in
    let h = c.args.h in
    testimony_is scope v h c.args.out.now c.report_entries.new.out c.report_vote.new.out c.report_end.new.out (entry_reports v h) (vote_report v h) (body.Frozen h (v.voted_to h))
    (testimony_parts v h) (c.in_ok-report_entries.ensures v m) (c.in_ok-report_vote.ensures v m) (c.in_ok-report_end.ensures v m)

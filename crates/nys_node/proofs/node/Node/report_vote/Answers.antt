use Rattle.std.proofs.Common.{◌∙◌, ap}
use Rattle.nys_config.specs.Scopes.{scope_of}
use Rattle.nys_rules.specs.Packets.{joined}
use Rattle.nys_rules.specs.Sending.{to_olympus}
use Rattle.nys_stmt.specs.declared.statement.Body.TheVariants as body
use Rattle.nys_stmt.specs.declared.statement.FilledKind.TheVariants as kind
use Rattle.nys_node.proofs.ReportLemmas.{vote_told, vote_untold}
use Rattle.nys_node.proofs.RowLemmas.{desk_read}
use Rattle.nys_node.proofs.node.Node.report_vote.Goals as goal

-- it made a Deliver in the slot behind the log
pub returns-in_ok-report-in-Some : goal.returns-in_ok-report-in-Some
returns-in_ok-report-in-Some g c = λ v m.
    let scope = scope_of (g.P.Protocol.rules c.args.cx.now.protocol) c.args.cx.now in
    let desk = desk_read scope c.args.self.now v c.args.h c.index.result.now m c.requires.host c.index.ensures in
    vote_told scope v c.args.h c.in-Some.content.now c.args.out.now c.report.new.out (c.in-Some.ensures ∙ ap (λ d. d.delivered) desk)
    (c.in_ok-report-in-Some.ensures v m ∙ ap (λ s. joined c.args.out.now (to_olympus scope v (body.Filled kind.Report c.args.h s c.in-Some.content.now))) (c.log_len.ensures scope v m))

-- it made none
pub returns-in-None : goal.returns-in-None
returns-in-None g c = λ v m.
    let scope = scope_of (g.P.Protocol.rules c.args.cx.now.protocol) c.args.cx.now in
    let desk = desk_read scope c.args.self.now v c.args.h c.index.result.now m c.requires.host c.index.ensures in
    vote_untold scope v c.args.h c.args.out.now (c.in-None.ensures ∙ ap (λ d. d.delivered) desk)

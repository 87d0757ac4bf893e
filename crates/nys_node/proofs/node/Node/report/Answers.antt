use Rattle.std.proofs.Common.{◌≤◌, ◌∙◌, ap, sym, subst, arith}
use Rattle.nys_stmt.specs.Ranges.{IsContentInRange}
use Rattle.nys_config.specs.Scopes.{scope_of}
use Rattle.nys_rules.specs.Packets.{joined}
use Rattle.nys_rules.specs.Sending.{to_olympus}
use Rattle.nys_stmt.specs.declared.statement.Body.TheVariants as body
use Rattle.nys_stmt.specs.declared.statement.FilledKind.TheVariants as kind
use Rattle.nys_node.proofs.SayLemmas.{says_in_range}
use Rattle.nys_node.proofs.node.Node.report.Goals as goal

-- host, slot and content are in range
pub tell_olympus-requires-clause-range : goal.tell_olympus-requires-clause-range
tell_olympus-requires-clause-range g c =
    let rules = g.P.Protocol.rules c.args.cx.now.protocol in
    let host : c.args.h ≤ 31 = omega (arith, c.requires.host) in
    says_in_range rules.hosts rules c.args.cx.now c.args.self.now c.requires.means.0 (body.Filled kind.Report c.args.h c.args.slot c.in_ok-content.content) c.requires.config c.requires.means.1.means
    (host, c.requires.slot, subst IsContentInRange (sym c.in_ok-content.ensures) c.requires.content)

-- the Report has a copy of the content
pub returns : goal.returns
returns g c = λ v m.
    let scope = scope_of (g.P.Protocol.rules c.args.cx.now.protocol) c.args.cx.now in
    c.in_ok-tell_olympus.ensures v m ∙ ap (λ x. joined c.args.out.now (to_olympus scope v (body.Filled kind.Report c.args.h c.args.slot x))) c.in_ok-content.ensures

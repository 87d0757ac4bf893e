use Rattle.std.proofs.Common.{◌≤◌, ◌∙◌, ap, arith}
use Rattle.std.specs.Prelude.{slice_index_or}
use Rattle.nys_config.specs.Scopes.{scope_of}
use Rattle.nys_rules.specs.Packets.{joined}
use Rattle.nys_rules.specs.Sending.{to_olympus}
use Rattle.nys_stmt.specs.declared.statement.Body.TheVariants as body
use Rattle.nys_node.proofs.RowLemmas.{table_read}
use Rattle.nys_node.proofs.SayLemmas.{says_in_range}
use Rattle.nys_node.proofs.node.Node.report_end.Goals as goal

-- it voted in no slot past the last
pub tell_olympus-requires-clause-range : goal.tell_olympus-requires-clause-range
tell_olympus-requires-clause-range g c =
    let rules = g.P.Protocol.rules c.args.cx.now.protocol in
    let node = c.args.self.now in
    let h = c.args.h in
    let v = c.requires.means.0 in
    let m = c.requires.means.1.means in
    let host : h ≤ 31 = omega (arith, c.requires.host) in
    let slot : slice_index_or node.voted_to h 0 ≤ 1024 = omega (arith, table_read node.voted_to v.voted_to h 0 m.voted_to c.requires.host, c.requires.means.1.sound.voted_to h) in
    says_in_range rules.hosts rules c.args.cx.now node v (body.Frozen h (slice_index_or node.voted_to h 0)) c.requires.config m (host, slot)

-- the slot is the view's
pub returns : goal.returns
returns g c = λ v m.
    let scope = scope_of (g.P.Protocol.rules c.args.cx.now.protocol) c.args.cx.now in
    c.in_ok-tell_olympus.ensures v m
    ∙ ap (λ s. joined c.args.out.now (to_olympus scope v (body.Frozen c.args.h s))) (table_read c.args.self.now.voted_to v.voted_to c.args.h 0 m.voted_to c.requires.host)

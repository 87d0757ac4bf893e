use Rattle.std.proofs.Common.{ap, length, arith}
use Rattle.nys_config.specs.Scopes.{scope_of}
use Rattle.nys_stmt.specs.Ranges.{IsContentInRange}
use Rattle.nys_node.proofs.Knows.{no_log, replica_keeps, replica_stands}
use Rattle.nys_node.proofs.ReportLemmas.{report_then}
use Rattle.nys_node.proofs.RowLemmas.{all_at}
use Rattle.nys_node.proofs.node.Node.report_entry.Goals as goal

-- the replica keeps the entry
pub entry-requires : goal.entry-requires
entry-requires g c =
    let scope = scope_of (g.P.Protocol.rules c.args.cx.now.protocol) c.args.cx.now in
    let stands = replica_stands scope c.args.self.now c.requires.means.0 c.requires.means.1.means c.args.h c.in-Some.replica.now c.in-Some.ensures.some in
    let keeps = replica_keeps scope c.args.self.now c.requires.means.0 c.requires.means.1.means c.args.h c.in-Some.replica.now c.in-Some.ensures.some in
    record { kept = omega (arith, keeps, c.requires.means.3); slot = omega (arith, stands.count, c.requires.means.2) }

-- entries of logs are in range
pub report-requires-clause-content : goal.report-requires-clause-content
report-requires-clause-content g c =
    let rules = g.P.Protocol.rules c.args.cx.now.protocol in
    let scope = scope_of rules c.args.cx.now in
    let v = c.requires.means.0 in
    let stands = replica_stands scope c.args.self.now v c.requires.means.1.means c.args.h c.in-Some.replica.now c.in-Some.ensures.some in
    all_at IsContentInRange (v.logs c.args.h) c.args.slot c.entry.result.now (c.requires.means.1.sound.logs c.args.h) c.requires.means.2
    (c.entry.ensures.entry scope.rules c.args.h (v.logs c.args.h) stands)

-- the entry's Report comes first, then those behind it
pub returns-in_ok-report-in-Some : goal.returns-in_ok-report-in-Some
returns-in_ok-report-in-Some g c = λ v m.
    let scope = scope_of (g.P.Protocol.rules c.args.cx.now.protocol) c.args.cx.now in
    let stands = replica_stands scope c.args.self.now v m c.args.h c.in-Some.replica.now c.in-Some.ensures.some in
    report_then scope v c.args.h c.args.slot c.entry.result.now c.args.out.now c.report.new.out
    (c.entry.ensures.entry scope.rules c.args.h (v.logs c.args.h) stands) (c.in_ok-report-in-Some.ensures v m)

-- a log with an entry has a replica
pub returns-in-None : goal.returns-in-None
returns-in-None g c = λ v m.
    let scope = scope_of (g.P.Protocol.rules c.args.cx.now.protocol) c.args.cx.now in
    let none = no_log scope c.args.self.now c.requires.means.0 c.requires.means.1.means c.args.h c.requires.host c.in-None.ensures.none in
    absurd (omega (arith, ap length none, c.requires.means.2))

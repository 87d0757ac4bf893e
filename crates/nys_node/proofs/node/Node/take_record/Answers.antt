use Rattle.std.proofs.Common.{sym}
use Rattle.nys_config.specs.Scopes.{scope_of}
use Rattle.nys_node.proofs.HandleLemmas.{answers_dropped, verdict_misplaced}
use Rattle.nys_node.proofs.node.Node.take_record.Goals as goal

-- it has no place
pub returns-in-Some : goal.returns-in-Some
returns-in-Some g c = record {
  answers = λ v is.
      let scope = scope_of (g.P.Protocol.rules c.args.cx.now.protocol) c.args.cx.now in
      (v, is, answers_dropped scope v c.args.given.now c.in-Some.cause c.dropped.result (verdict_misplaced scope v c.args.given.now c.in-Some.cause (sym (c.in-Some.ensures v is.means))) c.dropped.ensures);
  named = tt;
}

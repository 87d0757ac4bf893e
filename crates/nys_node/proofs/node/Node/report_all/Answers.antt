use Rattle.std.proofs.Common.{◌≡◌, ◌∷◌, [], ◌∙◌, ap, arith}
use Rattle.std.specs.Prelude.{filter, flat_map}
use Rattle.nys_config.specs.Scopes.{scope_of}
use Rattle.nys_node.specs.Told.{told}
use Rattle.nys_rules.specs.Ending.{testimony}
use Rattle.nys_rules.specs.Packets.{joined}
use Rattle.nys_rules.specs.View.{is_live}
use Rattle.nys_node.proofs.ReportLemmas.{reports_at_end, reports_more, told_nothing}
use Rattle.nys_node.proofs.node.Node.report_all.Goals as goal

-- one host more was looked at
pub loop-h-preserved : goal.loop-h-preserved
loop-h-preserved g c = let scope = scope_of (g.P.Protocol.rules c.args.cx.now.protocol) c.args.cx.now in λ v m.
    c.in_ok-report_live.ensures v m
    ∙ ap (λ acts. joined acts (told scope v (flat_map (testimony v) (filter (is_live scope v) (c.loop-h.h ∷ []))))) (c.loop-h.invariant v m)
    ∙ reports_more scope v c.args.out.now c.loop-h.h

-- all hosts were looked at
pub returns : goal.returns
returns g c = λ v m.
    let scope = scope_of (g.P.Protocol.rules c.args.cx.now.protocol) c.args.cx.now in
    let end : c.loop-h.h ≡ 32 = omega (arith, c.loop-h.auto.h-end, c.loop-h-test.false) in
    reports_at_end scope v c.args.out.now c.loop-h.out c.loop-h.h end (c.loop-h.invariant v m)

-- no host was looked at
pub loop-h-init : goal.loop-h-init
loop-h-init g c = λ v m.
    told_nothing (scope_of (g.P.Protocol.rules c.args.cx.now.protocol) c.args.cx.now) v c.args.out.now

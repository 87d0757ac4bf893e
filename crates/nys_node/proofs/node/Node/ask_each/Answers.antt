use Rattle.std.proofs.Common.{◌≡◌, ◌∷◌, [], ◌∙◌, ap, map, arith}
use Rattle.std.specs.Prelude.{filter}
use Rattle.nys_node.specs.Asked.{asked_of, is_asked}
use Rattle.nys_config.specs.Scopes.{scope_of}
use Rattle.nys_rules.specs.Packets.{all_joined, joined}
use Rattle.nys_node.proofs.AskLemmas.{asked_at_end}
use Rattle.nys_node.proofs.TellLemmas.{hosts_more}
use Rattle.nys_node.proofs.node.Node.ask_each.Goals as goal

-- one host more was looked at
pub loop-h-preserved : goal.loop-h-preserved
loop-h-preserved g c = let scope = scope_of (g.P.Protocol.rules c.args.cx.now.protocol) c.args.cx.now in λ v m.
    c.in_ok-ask_about.ensures v m
    ∙ ap (λ acts. joined acts (all_joined (map (asked_of scope v) (filter (is_asked scope v) (c.loop-h.h ∷ []))))) (c.loop-h.invariant v m)
    ∙ hosts_more (asked_of scope v) (is_asked scope v) c.args.out.now c.loop-h.h

-- all hosts were looked at
pub returns : goal.returns
returns g c = λ v m.
    let scope = scope_of (g.P.Protocol.rules c.args.cx.now.protocol) c.args.cx.now in
    let end : c.loop-h.h ≡ 32 = omega (arith, c.loop-h.auto.h-end, c.loop-h-test.false) in
    asked_at_end scope v c.args.out.now c.loop-h.out c.loop-h.h end (c.loop-h.invariant v m)

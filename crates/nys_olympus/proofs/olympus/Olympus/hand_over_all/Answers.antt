use Rattle.std.proofs.Common.{◌≡◌, ◌-◌, ◌∙◌, ap, arith}
use Rattle.std.specs.Prelude.{fold}
use Rattle.std.specs.List.{range_with_len}
use Rattle.nys_rules.specs.Packets.{joined}
use Rattle.nys_config.specs.Scopes.{scope_of}
use Rattle.nys_olympus.specs.Handing.{inheritances}
use Rattle.nys_olympus.proofs.NextEpoch.{inherits_more}
use Rattle.nys_olympus.proofs.olympus.Olympus.hand_over_all.Goals as goal

-- before the first host
pub loop-h-init : goal.loop-h-init
unfolding scope_of
loop-h-init g c = λ o view.
    let same : (g.P.Protocol.rules c.args.cx.now.protocol).hosts - 0 ≡ (g.P.Protocol.rules c.args.cx.now.protocol).hosts = omega arith in
    ap (λ n. fold joined c.args.out.now (inheritances (scope_of (g.P.Protocol.rules c.args.cx.now.protocol) c.args.cx.now) o c.args.epoch (range_with_len 0 n))) same

-- one host more
pub loop-h-preserved : goal.loop-h-preserved
loop-h-preserved g c = λ o view.
    inherits_more (scope_of (g.P.Protocol.rules c.args.cx.now.protocol) c.args.cx.now) o c.args.epoch c.loop-h.h (g.P.Protocol.rules c.args.cx.now.protocol).hosts c.loop-h.out c.hand_over.new.out
    (omega (arith, c.loop-h-test.true, c.hosts-h-end.ensures.value)) (c.in_ok-hand_over.ensures o view)
    ∙ c.loop-h.invariant o view

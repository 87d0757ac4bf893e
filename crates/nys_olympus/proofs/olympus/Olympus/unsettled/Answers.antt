use Rattle.std.proofs.Common.{◌≡◌, ◌-◌, ◌∙◌, not, ap, sym, arith}
use Rattle.std.specs.Prelude.{find}
use Rattle.std.specs.List.{range_with_len}
use Rattle.nys_rules.specs.Olympus.{is_settled}
use Rattle.nys_config.specs.Scopes.{scope_of}
use Rattle.nys_olympus.proofs.NextEpoch.{found_here, found_later}
use Rattle.nys_olympus.proofs.olympus.Olympus.unsettled.Goals as goal

-- before the first host
pub loop-h-init : goal.loop-h-init
unfolding scope_of
loop-h-init g c = λ o view.
    let same : (g.P.Protocol.rules c.args.cx.now.protocol).hosts - 0 ≡ (g.P.Protocol.rules c.args.cx.now.protocol).hosts = omega arith in
    ap (λ n. find (λ h. not (is_settled o h)) (range_with_len 0 n)) same

-- the host isn't settled
pub returns-then-not-is_settled : goal.returns-then-not-is_settled
returns-then-not-is_settled g c = λ o view.
    sym (found_here (λ h. not (is_settled o h)) c.loop-h.h (g.P.Protocol.rules c.args.cx.now.protocol).hosts (omega (arith, c.loop-h-test.true, c.hosts-h-end.ensures.value))
    (ap not (sym (c.is_settled.ensures (scope_of (g.P.Protocol.rules c.args.cx.now.protocol) c.args.cx.now) o view) ∙ c.if-not-is_settled.true)))
    ∙ c.loop-h.invariant o view

-- the host is settled
pub loop-h-preserved : goal.loop-h-preserved
loop-h-preserved g c = λ o view.
    found_later (λ h. not (is_settled o h)) c.loop-h.h (g.P.Protocol.rules c.args.cx.now.protocol).hosts (omega (arith, c.loop-h-test.true, c.hosts-h-end.ensures.value))
    (ap not (sym (c.is_settled.ensures (scope_of (g.P.Protocol.rules c.args.cx.now.protocol) c.args.cx.now) o view) ∙ c.if-not-is_settled.false))
    ∙ c.loop-h.invariant o view

use Rattle.std.proofs.Common.{◌≡◌, ap, arith, sym, ◌∙◌}
use Rattle.nys_node.proofs.Dues.{found_first, found_later, hosts_all, hosts_end, hosts_next}
use Rattle.nys_node.specs.Dues.{hosts_due}
use Rattle.nys_config.specs.Scopes.{scope_of}
use Rattle.nys_node.proofs.node.Node.due.Goals as goal

-- no host was looked at
pub loop-h-init : goal.loop-h-init
loop-h-init g c = λ v m. hosts_all (scope_of (g.P.Protocol.rules c.args.cx.now.protocol) c.args.cx.now) v

-- the host that was found is the first
pub returns-in-Some : goal.returns-in-Some
returns-in-Some g c = λ v m. found_first _ _ _ _ (sym c.in-Some.is ∙ c.in_ok-rule.ensures v m)
    (sym (hosts_next (scope_of (g.P.Protocol.rules c.args.cx.now.protocol) c.args.cx.now) v c.loop-h.h c.loop-h-test.true) ∙ c.loop-h.invariant v m)

-- it isn't this host
pub loop-h-preserved : goal.loop-h-preserved
loop-h-preserved g c = λ v m. found_later _ _ _ (sym c.in_default.is ∙ c.in_ok-rule.ensures v m)
    (sym (hosts_next (scope_of (g.P.Protocol.rules c.args.cx.now.protocol) c.args.cx.now) v c.loop-h.h c.loop-h-test.true) ∙ c.loop-h.invariant v m)

-- it is none
pub returns : goal.returns
returns g c = λ v m.
    let last : 32 ≡ c.loop-h.h = omega arith in
    hosts_end (scope_of (g.P.Protocol.rules c.args.cx.now.protocol) c.args.cx.now) v ∙ ap (hosts_due (scope_of (g.P.Protocol.rules c.args.cx.now.protocol) c.args.cx.now) v) last ∙ c.loop-h.invariant v m

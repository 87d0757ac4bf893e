use Rattle.std.proofs.Common.{sym, ◌∙◌}
use Rattle.nys_node.proofs.Settles.{settling_begins, settling_ends, settling_falls, settling_goes_on, settling_ready}
use Rattle.nys_config.specs.Scopes.{scope_of}
use Rattle.nys_node.proofs.node.Node.settle.Goals as goal

-- no rule was taken
pub loop-rule-init : goal.loop-rule-init
loop-rule-init g c = λ v is. settling_begins _ _ v _ is

-- the configuration is a scope
pub take-requires-clause-scope : goal.take-requires-clause-scope
take-requires-clause-scope g c = c.known_scope.ensures

-- the rule that is due may be taken
pub take-requires-clause-ready : goal.take-requires-clause-ready
take-requires-clause-ready g c = let i = c.loop-rule.invariant c.requires.view.0 c.requires.view.1 in
    settling_ready (scope_of (g.P.Protocol.rules c.args.cx.now.protocol) c.args.cx.now) c.loop-rule.self i.view c.in-Some.rule i.is (sym c.in-Some.is ∙ c.in_ok-rule.ensures i.view i.is.means)

-- one rule more is taken
pub loop-rule-preserved : goal.loop-rule-preserved
loop-rule-preserved g c = λ v is. let i = c.loop-rule.invariant v is in
    settling_goes_on (scope_of (g.P.Protocol.rules c.args.cx.now.protocol) c.args.cx.now) c.known_scope.ensures c.loop-rule.self c.take.new.self v c.args.out.now c.loop-rule.out c.take.new.out c.in-Some.rule i
    (sym c.in-Some.is ∙ c.in_ok-rule.ensures i.view i.is.means) (c.in_ok-take.ensures.node i.view i.is.means) (c.in_ok-take.ensures.out i.view i.is.means)

-- the node may still do less
pub loop-rule-smaller : goal.loop-rule-smaller
loop-rule-smaller g c = let i = c.loop-rule.invariant c.requires.view.0 c.requires.view.1 in
    settling_falls (scope_of (g.P.Protocol.rules c.args.cx.now.protocol) c.args.cx.now) c.known_scope.ensures c.loop-rule.self c.take.new.self i.view c.in-Some.rule i.is
    (sym c.in-Some.is ∙ c.in_ok-rule.ensures i.view i.is.means) (c.in_ok-take.ensures.node i.view i.is.means)

-- no rule is due
pub returns : goal.returns
returns g c = λ v is. let i = c.loop-rule.invariant v is in
    settling_ends (scope_of (g.P.Protocol.rules c.args.cx.now.protocol) c.args.cx.now) c.loop-rule.self v c.args.out.now c.loop-rule.out i (sym c.in_default.is ∙ c.in_ok-rule.ensures i.view i.is.means)

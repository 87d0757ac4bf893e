use Rattle.std.proofs.Common.{◌∙◌, ap, sym}
use Rattle.std.specs.Prelude.{filter}
use Rattle.nys_rules.specs.Dropping.{accepted, accepts}
use Rattle.nys_config.specs.Scopes.{scope_of}
use Rattle.nys_sending.proofs.Walks.{filter_behind, filter_first}
use Rattle.nys_sending.proofs.accepting.first_accepted.Goals as goal

-- no maker was looked at
pub loop-maker-init : goal.loop-maker-init
loop-maker-init g c = let test = accepts (scope_of (g.P.Protocol.rules c.args.cx.now.protocol) c.args.cx.now) c.args.given.now.statement.epoch c.args.taker c.args.given.now.statement in
    ap (filter test) (sym c.makers-left.ensures.same)

-- the first that is accepted
pub returns-then-accepts-clause-some : goal.returns-then-accepts-clause-some
unfolding accepted
returns-then-accepts-clause-some g c = let test = accepts (scope_of (g.P.Protocol.rules c.args.cx.now.protocol) c.args.cx.now) c.args.given.now.statement.epoch c.args.taker c.args.given.now.statement in
    c.loop-maker.invariant ∙ filter_first test c.in-Some.maker c.next.new.self c.loop-maker.left c.in-Some.ensures.steps (sym c.if-accepts.true ∙ c.accepts.ensures)

-- another that isn't
pub loop-maker-preserved : goal.loop-maker-preserved
loop-maker-preserved g c = let test = accepts (scope_of (g.P.Protocol.rules c.args.cx.now.protocol) c.args.cx.now) c.args.given.now.statement.epoch c.args.taker c.args.given.now.statement in
    c.loop-maker.invariant ∙ filter_behind test c.in-Some.maker c.next.new.self c.loop-maker.left c.in-Some.ensures.steps (sym c.if-accepts.false ∙ c.accepts.ensures)

-- none is left
pub returns-clause-none : goal.returns-clause-none
unfolding accepted
returns-clause-none g c = let test = accepts (scope_of (g.P.Protocol.rules c.args.cx.now.protocol) c.args.cx.now) c.args.given.now.statement.epoch c.args.taker c.args.given.now.statement in
    c.loop-maker.invariant ∙ ap (filter test) c.in_default.ensures.steps.0

use Rattle.std.proofs.Common.{◌∙◌, ◌++◌, [], ◌∷◌, ap, sym, refl}
use Rattle.std.proofs.lemmas.List.{append_assoc, append-nil}
use Rattle.std.specs.Prelude.{filter}
use Rattle.nys_rules.specs.Dropping.{accepts}
use Rattle.nys_config.specs.Scopes.{scope_of}
use Rattle.nys_sending.proofs.Walks.{filter_behind, filter_first}
use Rattle.nys_sending.proofs.accepting.accepted.Goals as goal

-- the first is kept
pub loop-maker-init : goal.loop-maker-init
loop-maker-init g c = let test = accepts (scope_of (g.P.Protocol.rules c.args.cx.now.protocol) c.args.cx.now) c.args.given.now.statement.epoch c.args.taker c.args.given.now.statement in
    ap (λ ys. ys ++ filter test c.into_iter-maker-iterator.result) (c.in_ok-push.ensures.items ∙ ap (λ ys. ys ++ c.in_ok-owned.field-0 ∷ []) c.new-kept.ensures.items)
    ∙ ap (λ t. t ∷ filter test c.into_iter-maker-iterator.result) c.in_ok-owned.ensures
    ∙ ap (λ left. c.args.first.maker ∷ filter test left) c.into_iter-maker-iterator.ensures.into_iter_gives

-- one more is kept
pub loop-maker-preserved-in_ok-push-2 : goal.loop-maker-preserved-in_ok-push-2
loop-maker-preserved-in_ok-push-2 g c = let test = accepts (scope_of (g.P.Protocol.rules c.args.cx.now.protocol) c.args.cx.now) c.args.given.now.statement.epoch c.args.taker c.args.given.now.statement in
    let kept = c.loop-maker.kept.items in
    let rest = filter test c.next.new.self in
    ap (λ ys. ys ++ rest) c.in_ok-push-2.ensures.items ∙ append_assoc kept (c.in_ok-owned-2.field-0 ∷ []) rest
    ∙ ap (λ t. kept ++ t ∷ rest) c.in_ok-owned-2.ensures
    ∙ ap (λ ys. kept ++ ys) (sym (filter_first test c.in-Some.maker c.next.new.self c.loop-maker.maker-iterator c.in-Some.ensures.steps (sym c.if-accepts.true ∙ c.accepts.ensures)))
    ∙ c.loop-maker.invariant

-- one isn't
pub loop-maker-preserved : goal.loop-maker-preserved
loop-maker-preserved g c = let test = accepts (scope_of (g.P.Protocol.rules c.args.cx.now.protocol) c.args.cx.now) c.args.given.now.statement.epoch c.args.taker c.args.given.now.statement in
    ap (λ ys. c.loop-maker.kept.items ++ ys) (sym (filter_behind test c.in-Some.maker c.next.new.self c.loop-maker.maker-iterator c.in-Some.ensures.steps (sym c.if-accepts.false ∙ c.accepts.ensures)))
    ∙ c.loop-maker.invariant

-- none is left
pub returns : goal.returns
returns g c = let test = accepts (scope_of (g.P.Protocol.rules c.args.cx.now.protocol) c.args.cx.now) c.args.given.now.statement.epoch c.args.taker c.args.given.now.statement in
    sym (append-nil c.loop-maker.kept.items) ∙ ap (λ ys. c.loop-maker.kept.items ++ filter test ys) (sym c.in-None.ensures.steps.0) ∙ c.loop-maker.invariant

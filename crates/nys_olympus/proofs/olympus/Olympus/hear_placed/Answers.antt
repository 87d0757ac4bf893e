use Rattle.std.proofs.Common.{◌≡◌, ◌∷◌, sym, subst, arith}
use Rattle.std.specs.Prelude.{filter, None}
use Rattle.nys_rules.specs.Dropping.{accepts}
use Rattle.nys_rules.specs.Olympus.{HearsOf, olympus_verdict, OlympusView}
use Rattle.nys_rules.specs.Scope.{olympus}
use Rattle.nys_rules.specs.declared.cause.DropCause.TheVariants as drop
use Rattle.nys_config.specs.Scopes.{scope_of}
use Rattle.nys_olympus.specs.Means.{IsViewOf}
use Rattle.nys_olympus.proofs.Verdicts.{hears_dropped, is_testimony, on_err, verdict_none, verdict_untagged}
use Rattle.nys_olympus.proofs.olympus.Olympus.hear_placed.Goals as goal

-- what has its place is testimony
pub hear_accepted-requires-clause-placed : goal.hear_accepted-requires-clause-placed
hear_accepted-requires-clause-placed g c =
    let scope = scope_of (g.P.Protocol.rules c.args.cx.now.protocol) c.args.cx.now in
    let r = c.args.given.now in
    is_testimony scope c.requires.means.0 r.statement.epoch r.statement.body (c.requires.placed c.requires.means.0 c.requires.means.1) c.requires.whole.statement.range.body

-- some maker is accepted
pub returns-in_ok-done-in-Some-clause-hears : goal.returns-in_ok-done-in-Some-clause-hears
returns-in_ok-done-in-Some-clause-hears g c = λ o view.
    let scope = scope_of (g.P.Protocol.rules c.args.cx.now.protocol) c.args.cx.now in
    let r = c.args.given.now in
    let t = c.in_ok-done-in-Some.ensures o view in
    (t.0, t.1, subst (λ v. HearsOf scope o r v t.0 c.in_ok-done-in-Some.done) (sym (verdict_none scope o r _ (c.requires.placed o view) (sym c.in-Some.ensures.some) (omega arith))) t.2)

-- the same where memory is wanting
pub returns-in_err-done-in-Some-clause-named : goal.returns-in_err-done-in-Some-clause-named
returns-in_err-done-in-Some-clause-named g c =
    let scope = scope_of (g.P.Protocol.rules c.args.cx.now.protocol) c.args.cx.now in
    let r = c.args.given.now in
    let holds : (o : OlympusView) → IsViewOf scope c.args.self.now o → olympus_verdict scope o r ≡ None = λ o view. verdict_none scope o r _ (c.requires.placed o view) (sym c.in-Some.ensures.some) (omega arith) in
    on_err c.from_residual.result holds

-- none is
pub returns-in-None-clause-hears : goal.returns-in-None-clause-hears
returns-in-None-clause-hears g c = λ o view.
    let scope = scope_of (g.P.Protocol.rules c.args.cx.now.protocol) c.args.cx.now in
    let r = c.args.given.now in
    (o, view, hears_dropped scope o r drop.NoTag c.dropped.result (verdict_untagged scope o r (c.requires.placed o view) c.in-None.ensures.none) c.dropped.ensures)

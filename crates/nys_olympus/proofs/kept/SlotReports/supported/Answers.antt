use Rattle.std.proofs.Common.{◌≡◌, ◌+◌, cond, take, drop, length, refl, ap, sym, ◌∙◌, arith}
use Rattle.std.proofs.lemmas.Bool.{le-ltb, lt-ltb}
use Rattle.std.proofs.lemmas.Option.{slice_get_read}
use Rattle.std.specs.Prelude.{slice_get, Some}
use Rattle.nys_rules.specs.Olympus.{reports_for, supported_after}
use Rattle.nys_olympus.proofs.Supporting.{supported_next}
use Rattle.nys_olympus.proofs.kept.SlotReports.supported.Goals as goal

-- it has so many reports here
pub returns-then-t-count_for : goal.returns-then-t-count_for
returns-then-t-count_for c =
    let at : slice_get c.args.self.now c.loop-i.i ≡ Some c.index.result.now =
    ap (λ ys. slice_get ys c.loop-i.i) (sym c.self.view_is)
    ∙ slice_get_read c.self.inside.held.items (length c.self.inside.held.items) c.loop-i.i c.index.result.now refl (omega (arith, c.loop-i-test.true, c.len-i-end.ensures)) c.index.ensures in
    let count : c.count_for.result ≡ reports_for c.index.result.now.content (take (c.loop-i.i + 1) c.args.self.now) =
    c.count_for.ensures
    ∙ ap (λ y. reports_for y (take (c.loop-i.i + 1) c.deref.result.now)) c.content-content.ensures
    ∙ ap (λ ys. reports_for c.index.result.now.content (take (c.loop-i.i + 1) ys)) (c.deref.ensures.value ∙ c.self.view_is) in
    ap Some c.content-content.ensures
    ∙ sym (supported_next c.args.t c.args.self.now c.loop-i.i c.index.result.now at
    ∙ ap (λ b. cond b (Some c.index.result.now.content) (supported_after c.args.t (take (c.loop-i.i + 1) c.args.self.now) (drop (c.loop-i.i + 1) c.args.self.now)))
    (lt-ltb c.args.t _ (omega (arith, c.if-t-count_for.true, count))))
    ∙ c.loop-i.invariant

-- it hasn't, so it is left to the rest
pub loop-i-preserved : goal.loop-i-preserved
loop-i-preserved c =
    let at : slice_get c.args.self.now c.loop-i.i ≡ Some c.index.result.now =
    ap (λ ys. slice_get ys c.loop-i.i) (sym c.self.view_is)
    ∙ slice_get_read c.self.inside.held.items (length c.self.inside.held.items) c.loop-i.i c.index.result.now refl (omega (arith, c.loop-i-test.true, c.len-i-end.ensures)) c.index.ensures in
    let count : c.count_for.result ≡ reports_for c.index.result.now.content (take (c.loop-i.i + 1) c.args.self.now) =
    c.count_for.ensures
    ∙ ap (λ y. reports_for y (take (c.loop-i.i + 1) c.deref.result.now)) c.content-content.ensures
    ∙ ap (λ ys. reports_for c.index.result.now.content (take (c.loop-i.i + 1) ys)) (c.deref.ensures.value ∙ c.self.view_is) in
    sym (supported_next c.args.t c.args.self.now c.loop-i.i c.index.result.now at
    ∙ ap (λ b. cond b (Some c.index.result.now.content) (supported_after c.args.t (take (c.loop-i.i + 1) c.args.self.now) (drop (c.loop-i.i + 1) c.args.self.now)))
    (le-ltb c.args.t _ (omega (arith, c.if-t-count_for.false, count))))
    ∙ c.loop-i.invariant

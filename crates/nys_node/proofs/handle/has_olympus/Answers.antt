use Rattle.std.proofs.Common.{◌≡◌, ◌<◌, ◌==◌, ◌∙◌, sym, refl, length, arith, eq-eqb}
use Rattle.std.specs.Prelude.{slice_get, Some}
use Rattle.std.proofs.lemmas.Bool.{ne_eqb}
use Rattle.std.proofs.lemmas.Option.{slice_get_read}
use Rattle.nys_rules.specs.Scope.{olympus}
use Rattle.nys_sending.proofs.Walks.{any_found, any_next}
use Rattle.nys_node.proofs.handle.has_olympus.Goals as goal

-- it is the Olympus
pub returns-then-tags-eq-LAST_PARTY : goal.returns-then-tags-eq-LAST_PARTY
returns-then-tags-eq-LAST_PARTY c =
    let makers = c.args.makers.now in
    let t = c.index-makers-i.result in
    let inside : c.loop-i.i < length makers = omega (arith, c.loop-i-test.true) in
    let at : slice_get makers c.loop-i.i ≡ Some t = slice_get_read makers (length makers) c.loop-i.i t refl inside c.index-makers-i.is in
    any_found (λ m. m.maker == olympus) makers c.loop-i.i t at (sym (eq-eqb t.maker olympus c.if-tags-eq-LAST_PARTY.true)) ∙ c.loop-i.invariant

-- it isn't, so it is left to the rest
pub loop-i-preserved : goal.loop-i-preserved
loop-i-preserved c =
    let makers = c.args.makers.now in
    let t = c.index-makers-i.result in
    let inside : c.loop-i.i < length makers = omega (arith, c.loop-i-test.true) in
    let at : slice_get makers c.loop-i.i ≡ Some t = slice_get_read makers (length makers) c.loop-i.i t refl inside c.index-makers-i.is in
    sym (any_next (λ m. m.maker == olympus) makers c.loop-i.i t at (sym (ne_eqb t.maker olympus c.if-tags-eq-LAST_PARTY.false))) ∙ c.loop-i.invariant

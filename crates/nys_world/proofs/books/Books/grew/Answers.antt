-- One slot after another.
use Rattle.std.proofs.Common.{get_or, ap, arith, subst, sym, ◌∙◌}
use Rattle.std.specs.Prelude.{slice_get}
use Rattle.std.proofs.lemmas.List.{drop_all, drop_more}
use Rattle.nys_rules.specs.World.{with_grown, with_slot}
use Rattle.nys_world.specs.Shows.{Keeps}
use Rattle.nys_world.proofs.books.Books.grew.Goals as goal

pub loop-h-preserved : goal.loop-h-preserved
loop-h-preserved g c = λ scope v is hand w k.
    let x = c.loop-h.invariant scope v is hand w k in
    let slot = get_or c.args.slots.now c.loop-h.h-index (0, 0) in (
      with_slot slot.0 slot.1 (slice_get (v.logs slot.0) slot.1) x.0,
      c.in_ok-grew_by_one.ensures scope v is (hand c.loop-h.h-index (0, 0) c.loop-h-test.true) x.0 x.1,
      sym (ap (λ slots. with_grown v slots x.0) (drop_more c.args.slots.now c.loop-h.h-index (0, 0) c.loop-h-test.true)) ∙ x.2,
    )

-- all slots
pub returns : goal.returns
returns g c = λ scope v is hand w k.
    let x = c.loop-h.invariant scope v is hand w k in
    let none = drop_all c.loop-h.h-index c.args.slots.now (omega (arith, c.loop-h-test.false)) in
    subst (Keeps c.loop-h.self) (sym (ap (λ slots. with_grown v slots x.0) none) ∙ x.2) x.1

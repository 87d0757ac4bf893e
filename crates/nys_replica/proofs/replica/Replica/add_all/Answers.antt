-- the first effect that is left joins the replica, and the others are left
use Rattle.std.proofs.Common.{◌≡◌, ◌∷◌, fold, ap, sym, refl, subst, rules, ◌∙◌}
use Rattle.std.specs.Prelude.{All}
use Rattle.std.specs.Vec.Iter.{into_iter_items}
use Rattle.nys_source.specs.Steps.{after_effect}
use Rattle.nys_source.proofs.HeldLemmas.{all_behind}
use Rattle.nys_replica.specs.Taking.{IsNear}
use Rattle.nys_replica.proofs.replica.Replica.add_all.Goals as goal

pub loop-effect-init : goal.loop-effect-init
loop-effect-init g c =
    let same : into_iter_items c.into_iter-effect-iterator.result ≡ c.args.effects.items = search rules in
    record {
      entries = refl;
      near = subst (All IsNear) (sym same) c.requires;
      holds = λ protocol h system held. (system, held, ap (λ es. fold (after_effect h) system es) same);
    }

pub loop-effect-preserved : goal.loop-effect-preserved
loop-effect-preserved g c =
    let left = into_iter_items c.loop-effect.effect-iterator in
    let rest = into_iter_items c.next.new.self in
    let first : left ≡ c.in-Some.effect ∷ rest = c.in-Some.ensures.steps.0 in
    record {
      entries = c.in_ok-add.ensures.entries ∙ c.loop-effect.invariant.entries;
      near = all_behind IsNear left rest c.in-Some.effect first c.loop-effect.invariant.near;
      holds = λ protocol h system held.
          let now = c.loop-effect.invariant.holds protocol h system held in (
            after_effect h now.0 c.in-Some.effect,
            c.in_ok-add.ensures.holds protocol h now.0 now.1,
            sym (ap (λ es. fold (after_effect h) now.0 es) first) ∙ now.2,
          );
    }

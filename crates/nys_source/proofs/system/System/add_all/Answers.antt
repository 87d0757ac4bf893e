-- the first effect that is left joins the system, and the others are left
use Rattle.std.proofs.Common.{◌≡◌, ◌∷◌, fold, ap, sym, ◌∙◌}
use Rattle.std.specs.Vec.Iter.{into_iter_items}
use Rattle.nys_source.specs.Rules.{IsEffectOf}
use Rattle.nys_source.specs.Steps.{after_effect}
use Rattle.nys_source.specs.Held.{shown}
use Rattle.nys_source.proofs.HeldLemmas.{all_behind}
use Rattle.nys_source.proofs.system.System.add_all.Goals as goal

pub loop-effect-preserved : goal.loop-effect-preserved
loop-effect-preserved g c =
    let rules = g.P.Protocol.rules c.args.self.0 in
    let left = into_iter_items c.loop-effect.effect-iterator in
    let rest = into_iter_items c.next.new.self in
    let first : left ≡ c.in-Some.effect ∷ rest = c.in-Some.ensures.steps.0 in
    let added = rw c.loop-effect.invariant.protocol at c.in_ok-add.ensures.added in
    record {
      protocol = c.in_ok-add.ensures.protocol ∙ c.loop-effect.invariant.protocol;
      allowed = all_behind (IsEffectOf rules c.args.h) left rest c.in-Some.effect first c.loop-effect.invariant.allowed;
      effects = ap (λ s. fold (after_effect c.args.h) s rest) added
          ∙ sym (ap (λ es. fold (after_effect c.args.h) (shown rules c.loop-effect.self.1) es) first)
          ∙ c.loop-effect.invariant.effects;
    }

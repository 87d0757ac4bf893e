-- what the effects that are left do to the system now is what all of them did to it at first
use Rattle.std.proofs.Common.{◌≡◌, ◌<◌, fold}
use Rattle.std.specs.Prelude.{All}
use Rattle.std.specs.Vec.Iter.{into_iter_items}
use Rattle.nys_source.specs.Rules.{IsEffectOf}
use Rattle.nys_source.specs.Steps.{after_effect}
use Rattle.nys_source.specs.Held.{shown}
use Rattle.nys_source.proofs.system.System.add_all.Given as goal

abbrev pub invariant-loop-effect : goal.invariant-loop-effect
invariant-loop-effect g l = let rules = g.P.Protocol.rules l.fn.self.0 in let left = into_iter_items l.effect-iterator in record {
  protocol : l.self.0 ≡ l.fn.self.0;
  allowed : All (IsEffectOf rules l.h) left;
  effects : fold (after_effect l.h) (shown rules l.self.1) left ≡ fold (after_effect l.h) (shown rules l.fn.self.1) l.fn.effects.items;
}

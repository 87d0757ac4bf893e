-- what the effects that are left make of the host now is what all of them made of it at first
use Rattle.std.proofs.Common.{◌≡◌, ℕ, fold}
use Rattle.std.specs.Prelude.{All}
use Rattle.std.specs.Vec.Iter.{into_iter_items}
use Rattle.nys_source.specs.Rules.{Rules}
use Rattle.nys_source.specs.Source.{Source}
use Rattle.nys_source.specs.Steps.{after_effect}
use Rattle.nys_replica.specs.Stands.{Holds}
use Rattle.nys_replica.specs.Taking.{IsNear}
use Rattle.nys_replica.proofs.replica.Replica.add_all.Given as goal

abbrev pub invariant-loop-effect : goal.invariant-loop-effect
invariant-loop-effect g l = let left = into_iter_items l.effect-iterator in record {
  entries : l.self.entries ≡ l.fn.self.entries;
  near : All IsNear left;
  holds : (rules : Rules g.row.P-State.Denot) (h : ℕ) (system : Source g.row.P-State.Denot) → Holds rules h l.fn.self system
      → (now : Source g.row.P-State.Denot) × Holds rules h l.self now × (fold (after_effect h) now left ≡ fold (after_effect h) system l.fn.effects.items);
}

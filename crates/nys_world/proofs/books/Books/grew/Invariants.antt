-- The slots that are left make of the world now what all of them made of it at first.
use Rattle.std.proofs.Common.{◌≡◌, drop}
use Rattle.nys_node.specs.Means.{IsViewOf}
use Rattle.nys_rules.specs.Scope.{Scope}
use Rattle.nys_rules.specs.View.{View}
use Rattle.nys_rules.specs.World.{with_grown, World}
use Rattle.nys_world.specs.Grown.{AreAtHand}
use Rattle.nys_world.specs.Shows.{Keeps}
use Rattle.nys_world.proofs.books.Books.grew.Given as goal

abbrev pub invariant-loop-h : goal.invariant-loop-h
invariant-loop-h g l = (scope : Scope g.row.P-State.Denot) (v : View) → IsViewOf scope l.node v → AreAtHand v l.told l.slots → (w : World) → Keeps l.fn.self w
    → (mid : World) × Keeps l.self mid × (with_grown v (drop l.h-index l.slots) mid ≡ with_grown v l.slots w)

-- The entries that are left make of the world now what all of them made of it at first.
use Rattle.std.proofs.Common.{◌≡◌, drop}
use Rattle.nys_rules.specs.World.{with_decided, World}
use Rattle.nys_world.specs.Shows.{Keeps}
use Rattle.nys_world.proofs.books.Books.decided.Given as goal

abbrev pub invariant-loop-slot : goal.invariant-loop-slot
invariant-loop-slot l = (w : World) → Keeps l.fn.self w
    → (mid : World) × Keeps l.self mid × (with_decided l.h l.slot (drop l.slot l.contents) mid ≡ with_decided l.h 0 l.contents w)

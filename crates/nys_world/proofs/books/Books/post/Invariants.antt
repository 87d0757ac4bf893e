-- The packets that are left make of the world now what all of them made of it at first.
use Rattle.std.proofs.Common.{◌≡◌}
use Rattle.std.specs.Vec.Iter.{into_iter_items}
use Rattle.nys_rules.specs.World.{with_packets, World}
use Rattle.nys_world.specs.Shows.{Keeps}
use Rattle.nys_world.proofs.books.Books.post.Given as goal

abbrev pub invariant-loop-packet : goal.invariant-loop-packet
invariant-loop-packet l = (w : World) → Keeps l.fn.self w
    → (mid : World) × Keeps l.self mid × (with_packets (into_iter_items l.packet-iterator) mid ≡ with_packets l.fn.packets.items w)

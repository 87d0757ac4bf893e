-- The seats so far, once the packets that are left joined, are those of all packets.
use Rattle.std.proofs.Common.{◌≡◌, drop}
use Rattle.std.specs.Prelude.{fold}
use Rattle.nys_rules.specs.World.{World}
use Rattle.nys_world.specs.Bundles.{AreSeated}
use Rattle.nys_world.proofs.BundleLemmas.{joining}
use Rattle.nys_world.proofs.bundling.join_all.Given as goal

abbrev pub invariant-loop-k : goal.invariant-loop-k
invariant-loop-k l =
    ((w : World) → l.pool ≡ w.pool → fold (joining w l.statement) l.seats.items (drop l.k-index l.packets) ≡ fold (joining w l.statement) l.fn.seats.items l.packets)
    × AreSeated l.seats.items

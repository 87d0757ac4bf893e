use Rattle.std.proofs.Common.{◌≡◌, not}
use Rattle.nys_rules.specs.World.{World}
use Rattle.nys_world.specs.Shows.{Keeps}
use Rattle.nys_world.proofs.PacketNumbers.{packets_below}
use Rattle.nys_world.proofs.giving.undelivered.Given as goal

-- the packets below this one that were never given
abbrev pub invariant-loop-k : goal.invariant-loop-k
invariant-loop-k l = (w : World) → Keeps l.books w → l.ks.items ≡ packets_below (λ k p. not (w.delivered k)) w.pool l.k

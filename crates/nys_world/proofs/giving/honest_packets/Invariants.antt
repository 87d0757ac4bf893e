use Rattle.std.proofs.Common.{◌≡◌, ◌&&◌}
use Rattle.nys_rules.specs.World.{is_honest, World}
use Rattle.nys_world.specs.Shows.{Keeps, setting_of}
use Rattle.nys_world.proofs.PacketNumbers.{packets_below}
use Rattle.nys_world.proofs.giving.honest_packets.Given as goal

-- the packets below this one that are between honest parties
abbrev pub invariant-loop-k : goal.invariant-loop-k
invariant-loop-k g l = let setting = setting_of (g.P.Protocol.rules l.stage.cx.protocol) l.stage in
    (w : World) → Keeps l.books w → l.ks.items ≡ packets_below (λ k p. is_honest setting p.from && is_honest setting p.to) w.pool l.k

use Rattle.std.proofs.Common.{drop}
use Rattle.nys_world.specs.Given.{IsDelivering}
use Rattle.nys_world.proofs.moment.Moment.deliver_all.Given as goal

-- what comes of the packets that are left comes of all
abbrev pub invariant-loop-k : goal.invariant-loop-k
invariant-loop-k g l = IsDelivering (g.P.Protocol.rules l.stage.cx.protocol) l.stage l.fn.self l.self l.ks (drop l.k-index l.ks)

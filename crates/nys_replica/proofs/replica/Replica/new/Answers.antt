-- a replica that has taken nothing holds what the system at the beginning has of its host
use Rattle.std.proofs.Common.{◌+◌, length, ap, subst, refl, arith}
use Rattle.nys_replica.specs.Packing.{IsPacked}
use Rattle.nys_replica.proofs.StandsLemmas.{holds_fresh}
use Rattle.nys_replica.proofs.replica.Replica.new.Goals as goal

pub returns : goal.returns
returns g c = record {
  stands = record {
    inside = c.requires.host;
    short = omega arith;
    count = ap (λ t. t.first + length t.entries) c.new-2.ensures;
    entries = rw c.new-2.ensures refl;
    holds = holds_fresh (g.P.Protocol.rules c.args.protocol.now) c.args.h _ refl
        (subst (λ s. IsPacked c.in_ok-packed.packed.items ((g.P.Protocol.rules c.args.protocol.now).view s)) c.in_ok-state.ensures c.in_ok-packed.ensures)
        c.new-3.ensures.items c.in_ok-sent.ensures c.new-4.ensures;
  };
  kept = ap (λ t. t.first) c.new-2.ensures;
}

-- the hosts so far stand in the states in which they begin
use Rattle.std.proofs.Common.{◌≡◌, vec_len}
use Rattle.nys_source.specs.Tables.{at_each}
use Rattle.nys_source.proofs.system.begin.Given as goal

abbrev pub invariant-loop-h : goal.invariant-loop-h
invariant-loop-h g l =
    (vec_len l.states ≡ l.h) × (at_each (g.P.Protocol.rules l.protocol).start l.states.items ≡ (g.P.Protocol.rules l.protocol).start)

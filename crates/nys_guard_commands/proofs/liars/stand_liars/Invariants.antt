-- the epochs so far stand the liars
use Rattle.std.proofs.Common.{All, take}
use Rattle.nys_hosts.specs.Sets.{has}
use Rattle.nys_guard_commands.specs.Liars.{Stands}
use Rattle.nys_guard_commands.proofs.liars.stand_liars.Given as goal

abbrev pub invariant-loop-e : goal.invariant-loop-e
invariant-loop-e l = All (Stands l.graph.hosts (has l.liars)) (take l.e l.graphs)

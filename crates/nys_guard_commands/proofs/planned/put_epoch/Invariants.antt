-- the text has the line of the epoch, and those of the hosts so far
use Rattle.std.proofs.Common.{◌≡◌, ◌++◌, flat_map}
use Rattle.std.specs.List.{range_with_len}
use Rattle.nys_guards.specs.Good.{guards_in}
use Rattle.nys_guard_commands.specs.Planned.{epoch_line, host_line}
use Rattle.nys_guard_commands.proofs.planned.put_epoch.Given as goal

abbrev pub invariant-loop-h : goal.invariant-loop-h
invariant-loop-h l =
    l.text ≡ l.fn.text ++ (epoch_line l.e l.fn.t l.graph.credit
    ++ flat_map (host_line (guards_in l.graph.guards)) (range_with_len 0 l.h))

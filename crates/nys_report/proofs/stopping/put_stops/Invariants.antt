-- the steps so far and the stops that are left make the whole run
use Rattle.std.proofs.Common.{◌≡◌, ◌-◌, ◌++◌}
use Rattle.std.specs.List.{range_with_len}
use Rattle.nys_hosts.specs.Sets.{has}
use Rattle.nys_report.specs.Parts.{stops_of}
use Rattle.nys_report.proofs.stopping.put_stops.Given as goal

abbrev pub invariant-loop-h : goal.invariant-loop-h
invariant-loop-h l =
    l.run.items ++ stops_of (has l.retired) (range_with_len l.h (l.hosts - l.h))
    ≡ l.fn.run.items ++ stops_of (has l.retired) (range_with_len 0 l.hosts)

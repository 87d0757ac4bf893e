-- the links so far and those of the hosts that are left are all
use Rattle.std.proofs.Common.{◌≡◌, ◌-◌, ◌++◌, map}
use Rattle.std.specs.List.{range_with_len}
use Rattle.nys_workload.proofs.rings.ring_links.Given as goal
use Rattle.nys_workload.specs.Rings.{link_from, ring_links}

abbrev pub invariant-loop-h : goal.invariant-loop-h
invariant-loop-h l = l.links.items ++ map (link_from l.hosts) (range_with_len l.h (l.hosts - l.h)) ≡ ring_links l.hosts

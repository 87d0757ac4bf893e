-- the text so far and the lines of the hosts that are left make the whole text
use Rattle.std.proofs.Common.{◌≡◌, ◌-◌, ◌++◌}
use Rattle.nys_source.specs.Held.{shown}
use Rattle.nys_runs.specs.HostLines.{hosts_text}
use Rattle.nys_runs.proofs.hosts.put_hosts.Given as goal

abbrev pub invariant-loop-h : goal.invariant-loop-h
invariant-loop-h g l = let rules = g.P.Protocol.rules l.system.0 in
    l.out ++ hosts_text rules (shown rules l.system.1) l.h (l.hosts - l.h)
    ≡ l.fn.out ++ hosts_text rules (shown rules l.system.1) 0 l.hosts

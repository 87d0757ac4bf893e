-- the text has the hosts so far, and it is known whether there are some
use Rattle.std.proofs.Common.{◌≡◌, ◌++◌, codes, decimal}
use Rattle.std.specs.List.{join_by}
use Rattle.nys_hosts.specs.Sets.{has}
use Rattle.nys_guard_commands.proofs.LinesLemmas.{has_some, passing_below}
use Rattle.nys_guard_commands.proofs.print.put_hosts.Given as goal

abbrev pub invariant-loop-h : goal.invariant-loop-h
invariant-loop-h l = record {
  text : l.out ≡ l.fn.out ++ join_by decimal (codes ",") (passing_below (has l.hosts) l.h);
  some : l.started ≡ has_some (passing_below (has l.hosts) l.h);
}

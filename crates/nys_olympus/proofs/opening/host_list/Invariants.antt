use Rattle.std.proofs.Common.{◌≡◌}
use Rattle.std.specs.List.{range_with_len}
use Rattle.nys_olympus.proofs.opening.host_list.Given as goal

-- the hosts so far
abbrev pub invariant-loop-h : goal.invariant-loop-h
invariant-loop-h g l = l.list.items ≡ range_with_len 0 l.h

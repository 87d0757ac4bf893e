use Rattle.std.proofs.Common.{◌≡◌}
use Rattle.std.specs.Prelude.{filter}
use Rattle.std.specs.List.{range_with_len}
use Rattle.nys_hosts.specs.Sets.{has}
use Rattle.nys_sending.proofs.sending.members.Given as goal

-- the hosts before this one that the set has are kept
abbrev pub invariant-loop-h : goal.invariant-loop-h
invariant-loop-h l = l.kept.items ≡ filter (has l.set) (range_with_len 0 l.h)

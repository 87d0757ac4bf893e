-- The hosts before this one were looked at.
use Rattle.std.proofs.Common.{◌≡◌, ℕ, ◌&&◌, nat_lt, not}
use Rattle.nys_hosts.specs.Sets.{has}
use Rattle.nys_node.proofs.opening.live_of.Given as goal

abbrev pub invariant-loop-h : goal.invariant-loop-h
invariant-loop-h l = (k : ℕ) → has l.found k ≡ (nat_lt k l.h && (has l.guarded k && not (has l.retired k)))

-- The hosts before this one were looked at.
use Rattle.std.proofs.Common.{◌≡◌, ℕ, ◌&&◌, nat_lt}
use Rattle.nys_hosts.specs.Sets.{has}
use Rattle.nys_rules.specs.Noting.{retirements}
use Rattle.nys_node.proofs.opening.retired_by.Given as goal

abbrev pub invariant-loop-h : goal.invariant-loop-h
invariant-loop-h l = (k : ℕ) → has l.found k ≡ (nat_lt k l.h && retirements l.lengths k)

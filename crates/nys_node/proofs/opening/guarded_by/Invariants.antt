-- The hosts before this one were looked at.
use Rattle.std.proofs.Common.{◌≡◌, ℕ, ◌&&◌, nat_lt}
use Rattle.nys_hosts.specs.Sets.{has}
use Rattle.nys_config.specs.Scopes.{scope_of}
use Rattle.nys_node.proofs.opening.guarded_by.Given as goal

abbrev pub invariant-loop-h : goal.invariant-loop-h
invariant-loop-h g l = (k : ℕ) → has l.found k ≡ (nat_lt k l.h && (scope_of (g.P.Protocol.rules l.cx.protocol) l.cx).guards l.epoch k l.me)

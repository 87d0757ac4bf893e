-- The guarded hosts before this one have replicas.
use Rattle.std.proofs.Common.{ℕ, ◌&&◌, ◌||◌, Bool, List, nat_lt}
use Rattle.nys_bytes.specs.declared.content.Content.{Content}
use Rattle.nys_hosts.specs.Sets.{has}
use Rattle.nys_node.specs.Entering.{AreReplicas}
use Rattle.nys_node.proofs.opening.begin_replicas.Given as goal

abbrev pub invariant-loop-h : goal.invariant-loop-h
invariant-loop-h g l = let rules = g.P.Protocol.rules l.cx.protocol in
    (logs : ℕ → List Content) (kept : ℕ → ℕ) (known : ℕ → Bool) → AreReplicas rules l.fn.replicas.items logs kept known
    → AreReplicas rules l.replicas.items logs kept (λ x. known x || (nat_lt x l.h && has l.guarded x))

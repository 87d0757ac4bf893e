-- The replicas of the hosts before this one have forgotten what is needed no more.
use Rattle.std.proofs.Common.{ℕ, Bool, cond, List, length, nat_lt}
use Rattle.nys_bytes.specs.declared.content.Content.{Content}
use Rattle.nys_hosts.specs.Sets.{has}
use Rattle.nys_node.specs.Entering.{AreReplicas}
use Rattle.nys_rules.specs.View.{kept_at}
use Rattle.nys_sending.specs.Tables.{IsTable}
use Rattle.nys_source.specs.Rules.{Rules}
use Rattle.nys_node.proofs.forgetting.forget_all.Given as goal

abbrev pub invariant-loop-h : goal.invariant-loop-h
invariant-loop-h g l =
    (rules : Rules g.row.P-State.Denot) (logs : ℕ → List Content) (kept : ℕ → ℕ) (known : ℕ → Bool) (bases : ℕ → ℕ)
    → IsTable l.base bases → AreReplicas rules l.fn.replicas.items logs kept known
    → AreReplicas rules l.replicas.items logs
    (λ x. cond (nat_lt x l.h) (kept_at (has l.live x) (bases x) (kept x) (length (logs x))) (kept x)) known

-- The tables of the hosts before this one.
use Rattle.std.proofs.Common.{ℕ, Bool, List}
use Rattle.nys_bytes.specs.declared.content.Content.{Content}
use Rattle.nys_node.specs.Entering.{AreReplicas, AreRows, HearsNothing}
use Rattle.nys_source.specs.Rules.{Rules}
use Rattle.nys_node.proofs.opening.heard_by_all.Given as goal

abbrev pub invariant-loop-i : goal.invariant-loop-i
invariant-loop-i g l = (rules : Rules g.row.P-State.Denot) (logs : ℕ → List Content) (kept : ℕ → ℕ) (known : ℕ → Bool) → AreReplicas rules l.replicas logs kept known
    → AreRows l.i l.tables.items (λ h table. HearsNothing rules h (logs h) table)

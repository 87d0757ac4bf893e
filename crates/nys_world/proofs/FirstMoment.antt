-- The parties before the first event.
use Rattle.std.proofs.Common.{◌≡◌, ℕ, ◌<◌, true, not, List, subst, arith}
use Rattle.std.specs.Prelude.{Option, nat_lt}
use Rattle.std.proofs.lemmas.Bool.{ltb-true, ne_eqb}
use Rattle.nys_node.specs.Entering.{AreRows}
use Rattle.nys_node.specs.declared.node.Node.{Node}
use Rattle.nys_rules.proofs.CertificateLemmas.{both_true}
use Rattle.nys_rules.specs.World.{is_honest, Setting, World}
use Rattle.nys_world.specs.Shows.{AreNodes, IsNodeOf}

-- a host that is honest is one of the protocol
pub honest_host : {S : Type 0} (setting : Setting S) (g : ℕ) → g < 32 → is_honest setting g ≡ true → g < setting.scope.rules.hosts
honest_host setting g low honest =
    let host = rw (ne_eqb g 32 (λ e. omega (arith, low, e))) at honest in
    ltb-true g setting.scope.rules.hosts (both_true (nat_lt g setting.scope.rules.hosts) (not (setting.liars g)) host).0

-- a node in each row
pub nodes_are : {P S : Type 0} (setting : Setting S) (w : World) (nodes : List (Option (Node P S))) (n : ℕ) → n ≡ 32
    → AreRows n nodes (IsNodeOf setting w) → AreNodes setting nodes w
nodes_are {P} {S} setting w nodes n all rows =
    let all_rows = subst (λ k. AreRows k nodes (IsNodeOf setting w)) all rows in
    record { size = all_rows.size; each = all_rows.each }

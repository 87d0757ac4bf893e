-- What a node can hear, and what it hears last in an epoch.
use Rattle.std.specs.Prelude.{ℕ, ◌+◌, ◌<◌, ◌≤◌, true}
use Rattle.nys_rules.specs.declared.limits.TheConstants.{WINDOW}
use Rattle.nys_rules.specs.Scope.{Scope}
use Rattle.nys_rules.specs.View.{next_number, View}
use Rattle.nys_node.specs.Means.{Means}
use Rattle.nys_node.specs.declared.node.Node.{Node}

-- the node means a view by which number k of p to h is one of the 64 from the next on
pub record CanHear {P S : Type 0} (scope : Scope S) (node : Node P S) (p h k : ℕ) : Type 0 where
  pub view : View
  pub means : Means scope node view
  pub least : next_number scope view p h ≤ k
  pub most : k < next_number scope view p h + WINDOW

-- the view in which the epoch ends
abbrev pub with_wedge : View → View
with_wedge v = record v { wedged = true }

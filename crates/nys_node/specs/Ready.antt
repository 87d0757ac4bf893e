-- What a node must be to take a rule, and to say a content.
use Rattle.std.specs.Prelude.{ℕ, ◌<◌, ◌≤◌, List, length}
use Rattle.nys_hosts.specs.declared.limits.TheConstants.{MAX_HOSTS}
use Rattle.nys_bytes.specs.declared.content.Content.{Content}
use Rattle.nys_node.specs.Means.{IsViewOf, Means}
use Rattle.nys_node.specs.Sound.{tellable}
use Rattle.nys_node.specs.declared.node.Node.{Node}
use Rattle.nys_rules.specs.Rules.{Enabled}
use Rattle.nys_rules.specs.Scope.{Scope}
use Rattle.nys_rules.specs.Settling.{IsAmongHosts}
use Rattle.nys_rules.specs.Sending.{others, said_in}
use Rattle.nys_rules.specs.View.{length_of, View}
use Rattle.nys_rules.specs.declared.rule.Rule.{Rule}
use Rattle.nys_stmt.specs.Ranges.{IsInRange}
use Rattle.nys_stmt.specs.declared.statement.Body.TheVariants.{Filled}
use Rattle.nys_stmt.specs.declared.statement.FilledKind.{FilledKind}

-- the node means a view that a node comes to, and in which the rule is enabled
pub record IsReady {P S : Type 0} (scope : Scope S) (node : Node P S) (rule : Rule) : Type 0 where
  pub view : View
  pub is : IsViewOf scope node view
  pub hosts : IsAmongHosts rule
  pub enabled : Enabled scope view rule

-- the node means a view by which the statement of a content in the open slot of h is in range; where it goes
-- to another party, the host has a guard whom the node can tell something
pub record CanSay {P S : Type 0} (scope : Scope S) (node : Node P S) (kind : FilledKind) (h : ℕ)
    (content : Content) (sent_to : List ℕ) : Type 0 where
  pub view : View
  pub means : Means scope node view
  pub host : h < MAX_HOSTS
  pub range : IsInRange (said_in view.epoch (Filled kind h (length_of view h) content))
  pub some : 1 ≤ length (others view.me sent_to) → 1 ≤ tellable scope view h

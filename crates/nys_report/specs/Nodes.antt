-- What is asked of a world for its report.
use Rattle.std.specs.Prelude.{◌≡◌, ℕ, ◌<◌, ◌≤◌, true, length}
use Rattle.nys_hosts.specs.declared.limits.TheConstants.{MAX_SLOTS}
use Rattle.nys_node.specs.Means.{Means}
use Rattle.nys_node.specs.declared.node.Node.{Node}
use Rattle.nys_rules.specs.Scope.{Scope}
use Rattle.nys_rules.specs.Spelling.{HasLog, SpellsLogs}
use Rattle.nys_rules.specs.World.{is_honest, Setting, World}

-- the node is that of an honest host of a world that spells its logs
pub record IsGuardOf {P S : Type 0} (scope : Scope S) (setting : Setting S) (w : World) (g : ℕ) (node : Node P S) : Type 0 where
  pub scope_is : setting.scope ≡ scope
  pub host : g < scope.rules.hosts
  pub honest : is_honest setting g ≡ true
  pub means : Means scope node (w.nodes g)
  pub spells : SpellsLogs setting w

-- no log has more than 1,024 entries
pub record AreShort {S : Type 0} (setting : Setting S) (w : World) : Type 0 where
  pub logs : (g h : ℕ) → HasLog setting w g h → length ((w.nodes g).logs h) ≤ MAX_SLOTS
  pub decided : (h : ℕ) → h < setting.scope.rules.hosts → length (w.olympus.decided h) ≤ MAX_SLOTS

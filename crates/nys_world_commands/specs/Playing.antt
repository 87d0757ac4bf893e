-- What worlds ask of the guard graphs of a scenario.
use Rattle.std.specs.Prelude.{◌≡◌, ℕ, ◌≤◌, List, All, length}
use Rattle.nys_guard_commands.specs.Checked.{AreSound, EndsAt}
use Rattle.nys_guard_commands.specs.Liars.{Stands}
use Rattle.nys_guards.specs.declared.table.GuardGraph.{GuardGraph}
use Rattle.nys_hosts.specs.Sets.{has}
use Rattle.nys_config.specs.Config.{IsEpoch}
use Rattle.nys_hosts.specs.declared.limits.TheConstants.{MAX_EPOCHS}
use Rattle.nys_scenario.specs.Document.{Said}
use Rattle.nys_scenario.specs.Hosts.{Hosts}
use Rattle.nys_world_commands.specs.declared.guards.Guards.{Guards}

-- there is an epoch, nodes can follow each, only hosts are guarded, and each epoch stands the liars
pub record ArePlayable (hosts : ℕ) (liars : Hosts) (graphs : List GuardGraph) : Type 0 where
  pub some : 1 ≤ length graphs
  pub few : length graphs ≤ MAX_EPOCHS
  pub epochs : All (IsEpoch hosts) graphs
  pub ends : All (EndsAt hosts) graphs
  pub stand : All (Stands hosts liars) graphs

-- the guards of a scenario, with its master key and its liars
pub record AreGuardsOf (said : Said) (guards : Guards) : Type 0 where
  pub sound : AreSound said guards.graphs.items
  pub master : guards.master ≡ said.guarded.master
  pub liars : has guards.liars ≡ said.guarded.liars
  pub playable : ArePlayable said.system.hosts said.guarded.liars guards.graphs.items

-- A configuration of guard graphs that can be played on.
use Rattle.std.proofs.Common.{ℕ}
use Rattle.nys_config.specs.Config.{IsConfig}
use Rattle.nys_config.specs.declared.config.Config.{Config}
use Rattle.nys_scenario.specs.Hosts.{Hosts}
use Rattle.nys_world_commands.specs.Playing.{ArePlayable}

-- nodes take it
pub config_playable : {P : Type 0} (hosts : ℕ) (liars : Hosts) (cx : Config P) → ArePlayable hosts liars cx.epochs.items → IsConfig hosts cx
config_playable hosts liars cx playable = record { some = playable.some; few = playable.few; epochs = playable.epochs }

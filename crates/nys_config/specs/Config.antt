-- What is asked of a configuration. The guard graphs need not be good.
use Rattle.std.specs.Prelude.{◌≡◌, ℕ, ◌<◌, ◌≤◌, true, length, All}
use Rattle.nys_guards.specs.Good.{guards_in, AreThresholds}
use Rattle.nys_guards.specs.declared.table.GuardGraph.{GuardGraph}
use Rattle.nys_config.specs.declared.config.Config.{Config}
use Rattle.nys_hosts.specs.declared.limits.TheConstants.{MAX_CREDIT, MAX_EPOCHS}

-- numbers and guards of an epoch on which the rules can be followed, by so many hosts
pub record IsEpoch (hosts : ℕ) (epoch : GuardGraph) : Type 0 where
  -- no host's threshold is greater than one may be
  pub liars : AreThresholds epoch.t
  pub some_credit : 1 ≤ epoch.credit
  pub credit : epoch.credit ≤ MAX_CREDIT
  -- all guards are hosts
  pub within : (h g : ℕ) → h < hosts → guards_in epoch.guards h g ≡ true → g < hosts
  -- each host is its own guard
  pub own : (h : ℕ) → h < hosts → guards_in epoch.guards h h ≡ true

-- what every call that takes a configuration asks of it, where its protocol has so many hosts
pub record IsConfig {P : Type 0} (hosts : ℕ) (config : Config P) : Type 0 where
  pub some : 1 ≤ length config.epochs.items
  pub few : length config.epochs.items ≤ MAX_EPOCHS
  pub epochs : All (IsEpoch hosts) config.epochs.items

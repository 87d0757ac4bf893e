-- What is asked of a scenario, so that its worlds follow the machine and keep what the machine promises.
use Rattle.std.specs.Prelude.{◌≡◌, ℕ, ◌<◌, ◌≤◌, true}
use Rattle.nys_rules.specs.Premises.{AreFewLiars}
use Rattle.nys_rules.specs.Scope.{olympus, Scope}
use Rattle.nys_rules.specs.World.{Setting}

-- a host guards another in an epoch of the scenario
pub record GuardsWithin {S : Type 0} (scope : Scope S) (e h m : ℕ) : Type 0 where
  pub epoch : e < scope.epochs
  pub host : h < scope.rules.hosts
  pub guard : m < scope.rules.hosts

-- it has an epoch, all hosts are below the Olympus, only hosts guard hosts, and in its epochs alone, and
-- there no host has more liars among its guards than they stand
pub record IsScenario {S : Type 0} (setting : Setting S) : Type 0 where
  pub some : 1 ≤ setting.scope.epochs
  pub hosts : setting.scope.rules.hosts ≤ olympus
  pub guards : (e h m : ℕ) → setting.scope.guards e h m ≡ true → GuardsWithin setting.scope e h m
  pub few : AreFewLiars setting

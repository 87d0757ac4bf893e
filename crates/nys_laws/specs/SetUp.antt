-- What the laws ask of a scenario. Not that few lie: that is asked where something is promised.
use Rattle.std.specs.Prelude.{◌≡◌, ℕ, ◌<◌, ◌≤◌, true}
use Rattle.nys_hosts.specs.declared.limits.TheConstants.{MAX_HOSTS}
use Rattle.nys_rules.specs.Scope.{Scope}

-- the guards of all hosts are hosts of the protocol, which are at most 32
pub record AreHosts {S : Type 0} (scope : Scope S) : Type 0 where
  pub few : scope.rules.hosts ≤ MAX_HOSTS
  pub guards : (e h m : ℕ) → scope.guards e h m ≡ true → m < scope.rules.hosts

-- and there is an epoch
pub record IsSetUp {S : Type 0} (scope : Scope S) : Type 0 where
  pub some : 1 ≤ scope.epochs
  pub hosts : AreHosts scope

-- Parties that something is for.
use Rattle.std.specs.Prelude.{ℕ, ◌<◌, ◌≤◌, List, length, All, AllPairs}
use Rattle.nys_hosts.specs.declared.limits.TheConstants.{MAX_HOSTS}

-- one or more parties, rising
pub record AreParties (parties : List ℕ) : Type 0 where
  pub some : 1 ≤ length parties
  pub rising : AllPairs (λ a b. a < b) parties
  pub each : All (λ p. p ≤ MAX_HOSTS) parties

-- Seats whose taken ones are counted.
use Rattle.std.specs.Prelude.{◌≡◌, ℕ, List, Option, length}
use Rattle.nys_hosts.specs.declared.limits.TheConstants.{MAX_HOSTS}
use Rattle.nys_votes.specs.Seats.{count_all}

-- there is a seat for each host, and so many are taken
pub record AreCounted {A : Type 0} (held : List (Option A)) (taken : ℕ) : Type 0 where
  pub seats : length held ≡ MAX_HOSTS
  pub count : count_all held ≡ taken

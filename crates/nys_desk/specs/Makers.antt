-- Makers that have a seat.
use Rattle.std.specs.Prelude.{ℕ, ◌<◌}
use Rattle.nys_hosts.specs.declared.limits.TheConstants.{MAX_HOSTS}
use Rattle.nys_stmt.specs.declared.tags.Tags.{Tags}

-- the maker is a host
pub record IsHost (tags : Tags) : Type 0 where
  pub host : tags.maker < MAX_HOSTS

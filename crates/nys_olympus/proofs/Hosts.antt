-- Makers that are hosts.
use Rattle.std.proofs.Common.{◌<◌, List}
use Rattle.std.specs.Prelude.{All}
use Rattle.nys_stmt.specs.declared.tags.Tags.{Tags}
use Rattle.nys_olympus.specs.Heard.{IsHost}

-- they are below the Olympus
pub hosts_below : (makers : List Tags) → All IsHost makers → All (λ m. m.maker < 32) makers
hosts_below makers all k d within = (all k d within).host

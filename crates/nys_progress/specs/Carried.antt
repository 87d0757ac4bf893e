-- What is asked of a scenario and of a content so that what honest hosts send can be read.
use Rattle.std.specs.Prelude.{ℕ, ◌<◌, ◌≤◌}
use Rattle.nys_hosts.specs.declared.limits.TheConstants.{MAX_EPOCHS, MAX_HOSTS}
use Rattle.nys_bytes.specs.declared.content.Content.{Content}
use Rattle.nys_stmt.specs.Ranges.{IsContentInRange, IsContentSound}
use Rattle.nys_stmt.specs.Records.{IsTag}
use Rattle.nys_stmt.specs.declared.statement.Statement.{Statement}
use Rattle.nys_rules.specs.Scope.{Scope}

-- there are at most 64 epochs, and each tag of a host for a party has 32 bytes
pub record HasTags {S : Type 0} (scope : Scope S) : Type 0 where
  pub epochs : scope.epochs ≤ MAX_EPOCHS
  pub tags : (maker receiver : ℕ) (statement : Statement) → maker < MAX_HOSTS → receiver ≤ MAX_HOSTS
      → IsTag (receiver, scope.tag maker receiver statement)

-- the payload of the content has 1 to 512 numbers of 64 bits, and the sender and the number of a message fit
pub record IsCarried (content : Content) : Type 0 where
  pub sound : IsContentSound content
  pub range : IsContentInRange content

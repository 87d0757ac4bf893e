-- What never changes while a scenario is replayed: the protocol, the guards of each epoch with their
-- thresholds, and the tags. Liars stand apart, since no node knows them.
use Rattle.std.specs.Prelude.{ℕ, Bool, List}
use Rattle.nys_hosts.specs.declared.limits.TheConstants.{MAX_HOSTS}
use Rattle.nys_hosts.specs.Counts.{hosts_with, quorum_of}
use Rattle.nys_hosts.specs.Makers.{passing}
use Rattle.nys_source.specs.Rules.{Rules}
use Rattle.nys_stmt.specs.declared.statement.Statement.{Statement}

-- a protocol with states S, and who guards it
pub record Scope (S : Type 0) : Type 0 where
  pub rules : Rules S
  -- how many epochs there are; they are counted from 0
  pub epochs : ℕ
  -- whether, in an epoch, a host is guarded by a host; the arguments stand in this order
  pub guards : ℕ → ℕ → ℕ → Bool
  -- how many liars the guards of a host stand, by epoch and host
  pub t : ℕ → ℕ → ℕ
  -- by epoch, how many slots a head may be passed over
  pub credit : ℕ → ℕ
  -- the tag of a maker for a receiver on a statement
  pub tag : (maker receiver : ℕ) → Statement → List ℕ

-- the party that is the Olympus
abbrev pub olympus : ℕ
olympus = MAX_HOSTS

-- the guards of a host in an epoch, rising
unfoldable pub guards_of : {S : Type 0} → Scope S → ℕ → ℕ → List ℕ
guards_of scope e h = passing (scope.guards e h)

-- how many guards of a host are a quorum in an epoch
unfoldable pub quorum_at : {S : Type 0} → Scope S → ℕ → ℕ → ℕ
quorum_at scope e h = quorum_of (hosts_with (scope.guards e h)) (scope.t e h)

-- Who guards whom in each epoch, who lies, and how many liars a host's guards stand.
use Rattle.std.specs.Prelude.{ℕ, ◌≤◌, Bool}
use Rattle.nys_hosts.specs.Counts.{hosts_with, quorum_of}
use Rattle.nys_hosts.specs.Quorums.{liars_among}

-- the guards of all epochs, and the liars
pub record Net : Type 0 where
  -- whether, in an epoch, a host is guarded by a party; the arguments stand in this order
  pub guards : ℕ → ℕ → ℕ → Bool
  -- the parties of which nothing is known
  pub liars : ℕ → Bool
  -- how many liars the guards of a host stand, by epoch and host
  pub t : ℕ → ℕ → ℕ

-- how many guards of a host are a quorum in an epoch
abbrev pub quorum_in : Net → ℕ → ℕ → ℕ
quorum_in net e h = quorum_of (hosts_with (net.guards e h)) (net.t e h)

-- no host has more liars among its guards than they stand, in any epoch
pub record HasFewLiars (net : Net) : Type 0 where
  pub few : (e h : ℕ) → liars_among (net.guards e h) net.liars ≤ net.t e h

-- Which frames are sent, and between which hosts.
use Rattle.std.specs.Prelude.{ℕ, ◌<◌, ◌≤◌, ◌≢◌, List, length, Option, None, Some, Result, Ok, Err}
use Rattle.nys_hosts.specs.declared.limits.TheConstants.{MAX_FRAME}

-- the bytes are as many as a frame may have
pub record IsFrame (bytes : List ℕ) : Type 0 where
  pub some : 1 ≤ length bytes
  pub few : length bytes ≤ MAX_FRAME

-- two different hosts of those that are connected
abbrev pub AreLinked : Option ℕ → ℕ → ℕ → Type 0
AreLinked None from to = ⊥
AreLinked (Some hosts) from to = (from < hosts) × (to < hosts) × (from ≢ to)

-- for how many hosts links are connected after a connect
abbrev pub connected_by : {T E : Type 0} → ℕ → Result T E → Option ℕ
connected_by hosts (Ok _) = Some hosts
connected_by hosts (Err _) = None

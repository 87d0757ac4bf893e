-- The greatest threshold of some hosts.
use Rattle.std.specs.Prelude.{◌≡◌, ℕ, ◌≤◌}

-- m is the greatest threshold of the hosts of which P holds
pub record IsGreatest (t : ℕ → ℕ) (P : ℕ → Type 0) (m : ℕ) : Type 0 where
  pub bound : (h : ℕ) → P h → t h ≤ m
  -- one of them that has it
  pub host : ℕ
  pub is : P host
  pub same : t host ≡ m

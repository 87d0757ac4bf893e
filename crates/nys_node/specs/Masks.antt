-- The hosts of a mask, one after another.
use Rattle.std.specs.Prelude.{◌≡◌, ◌<◌, ◌≤◌, ℕ, true, false}
use Rattle.nys_hosts.specs.declared.limits.TheConstants.{MAX_HOSTS}
use Rattle.nys_hosts.specs.Masks.{in_mask}

-- the mask has none of the hosts from one on
abbrev pub HasNone : (mask from : ℕ) → Type 0
HasNone mask from = (q : ℕ) → from ≤ q → in_mask mask q ≡ false

-- p is the lowest host from one on that the mask has
pub record IsNext (mask from p : ℕ) : Type 0 where
  pub above : from ≤ p
  pub host : p < MAX_HOSTS
  pub found : in_mask mask p ≡ true
  pub first : (q : ℕ) → from ≤ q → q < p → in_mask mask q ≡ false

-- Tables by host, as lists of 32 items.
use Rattle.std.specs.Prelude.{◌≡◌, ℕ, List, length, slice_get, Some}
use Rattle.nys_hosts.specs.declared.limits.TheConstants.{MAX_HOSTS}

-- the table has for each host below 32 what the function gives
pub record IsTable {A : Type 0} (items : List A) (f : ℕ → A) : Type 0 where
  pub size : length items ≡ MAX_HOSTS
  pub each : (x : ℕ) (item : A) → slice_get items x ≡ Some item → item ≡ f x

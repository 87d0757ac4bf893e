-- Numbers as sets of hosts, host 0 at the lowest bit.
use Rattle.std.specs.Prelude.{ℕ, Bool, ◌==◌, ◌&&◌, nat_lt}
use Rattle.std.specs.Int.{bit_at}
use Rattle.nys_hosts.specs.declared.limits.TheConstants.{MAX_HOSTS}

-- the mask has host h
unfoldable pub in_mask : ℕ → ℕ → Bool
in_mask mask h = nat_lt h MAX_HOSTS && (bit_at mask h == 1)

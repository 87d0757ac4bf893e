-- How many hosts pass a test, and what a quorum is. A host is a number below 32, and makers are a test of hosts.
use Rattle.std.specs.Prelude.{◌≡◌, ℕ, ◌+◌, ◌/◌, ◌≤◌, Bool, true, count_by}
use Rattle.std.specs.List.{range_with_len}
use Rattle.nys_hosts.specs.declared.limits.TheConstants.{MAX_HOSTS}

-- how many numbers below n pass the test
unfoldable pub count_below : (ℕ → Bool) → ℕ → ℕ
count_below p n = count_by p (range_with_len 0 n)

-- how many hosts pass the test
unfoldable pub hosts_with : (ℕ → Bool) → ℕ
hosts_with p = count_below p MAX_HOSTS

-- at least n different makers are such that P
pub record AtLeast (n : ℕ) (P : ℕ → Type 0) : Type 0 where
  -- the makers counted
  pub makers : ℕ → Bool
  pub each : (m : ℕ) → makers m ≡ true → P m
  pub enough : n ≤ hosts_with makers

-- how many of n guards are a quorum, where at most t of them lie
abbrev pub quorum_of : ℕ → ℕ → ℕ
quorum_of n t = (n + t) / 2 + 1

-- each host of the one set is in the other
abbrev pub Within : (ℕ → Bool) → (ℕ → Bool) → Type 0
Within some all = (h : ℕ) → some h ≡ true → all h ≡ true

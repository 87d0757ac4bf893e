-- What good guards are, and which liars they stand. Guards are a test: whether host g is a guard of host h.
-- Thresholds are a function: how many liars the guards of a host stand.
use Rattle.std.specs.Prelude.{◌≡◌, ℕ, ◌+◌, ◌*◌, ◌<◌, ◌≤◌, Bool, true, ◌&&◌, List, max, slice_index_or}
use Rattle.nys_hosts.specs.declared.set.HostSet.{HostSet}
use Rattle.nys_hosts.specs.Counts.{hosts_with}
use Rattle.nys_hosts.specs.Quorums.{liars_among}
use Rattle.nys_hosts.specs.Sets.{has, no_hosts}
use Rattle.nys_hosts.specs.declared.limits.TheConstants.{MAX_T}

-- host g guards host h, by a table that has for each host the set of its guards
unfoldable pub guards_in : List HostSet → ℕ → ℕ → Bool
guards_in table h g = has (slice_index_or table h no_hosts) g

-- how many liars the guards of host h stand, by a table that has it for each host; past its end none
unfoldable pub threshold_in : List ℕ → ℕ → ℕ
threshold_in table h = slice_index_or table h 0

-- no threshold of a table is greater than one may be
abbrev pub AreThresholds : List ℕ → Type 0
AreThresholds table = (h : ℕ) → threshold_in table h ≤ MAX_T

-- how many guards two hosts share
abbrev pub shared_guards : (ℕ → ℕ → Bool) → ℕ → ℕ → ℕ
shared_guards guards p h = hosts_with (λ g. guards p g && guards h g)

-- guards that a system with at most t h liars among the guards of each host h can stand on
pub record IsGood (hosts : ℕ) (linked : ℕ → ℕ → Bool) (t : ℕ → ℕ) (credit : ℕ)
    (guards : ℕ → ℕ → Bool) : Type 0 where
  -- each host guards itself
  pub own : (h : ℕ) → h < hosts → guards h h ≡ true
  -- each host has at least 3t + 1 guards, by its own threshold
  pub many : (h : ℕ) → h < hosts → 3 * t h + 1 ≤ hosts_with (guards h)
  -- no host has more neighbours than credit
  pub near : (h : ℕ) → h < hosts → hosts_with (linked h) ≤ credit
  -- neighbours share at least 2m + 1 guards, m being the greater of their thresholds
  pub shared : (p h : ℕ) → linked p h ≡ true → 2 * max (t p) (t h) + 1 ≤ shared_guards guards p h

-- each host has at most as many liars among its guards as its threshold
abbrev pub AreWithin : ℕ → (ℕ → ℕ) → (ℕ → ℕ → Bool) → (ℕ → Bool) → Type 0
AreWithin hosts t guards liars = (h : ℕ) → h < hosts → liars_among (guards h) liars ≤ t h

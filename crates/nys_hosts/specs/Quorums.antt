-- What quorums are good for where at most t of a host's guards lie: the statements of the law.
use Rattle.std.specs.Prelude.{◌≡◌, ℕ, ◌+◌, ◌*◌, ◌<◌, ◌≤◌, Bool, true, false, ◌&&◌, not}
use Rattle.nys_hosts.specs.declared.limits.TheConstants.{MAX_HOSTS}
use Rattle.nys_hosts.specs.Counts.{hosts_with, quorum_of, Within}

-- how many of the guards lie
abbrev pub liars_among : (ℕ → Bool) → (ℕ → Bool) → ℕ
liars_among guards liars = hosts_with (λ h. guards h && liars h)

-- how many of the makers don't lie
abbrev pub honest_among : (ℕ → Bool) → (ℕ → Bool) → ℕ
honest_among makers liars = hosts_with (λ h. makers h && not (liars h))

-- two quorums of the same guards share an honest host
abbrev pub SharedHonest : Type 0
SharedHonest = (t : ℕ) (a b guards liars : ℕ → Bool) → Within a guards → Within b guards → liars_among guards liars ≤ t
    → quorum_of (hosts_with guards) t ≤ hosts_with a → quorum_of (hosts_with guards) t ≤ hosts_with b
    → (h : ℕ) × (h < MAX_HOSTS) × (a h ≡ true) × (b h ≡ true) × (liars h ≡ false)

-- of t + 1 makers among the guards one is honest
abbrev pub OneHonest : Type 0
OneHonest = (t : ℕ) (makers guards liars : ℕ → Bool) → Within makers guards → liars_among guards liars ≤ t
    → t + 1 ≤ hosts_with makers → (h : ℕ) × (h < MAX_HOSTS) × (makers h ≡ true) × (liars h ≡ false)

-- of any makers among the guards at most t lie
abbrev pub HonestRest : Type 0
HonestRest = (t : ℕ) (makers guards liars : ℕ → Bool) → Within makers guards → liars_among guards liars ≤ t
    → hosts_with makers ≤ honest_among makers liars + t

-- a quorum of at least 3t + 1 guards has t + 1 honest makers
abbrev pub HonestOfQuorum : Type 0
HonestOfQuorum = (t : ℕ) (makers guards liars : ℕ → Bool) → Within makers guards → liars_among guards liars ≤ t
    → 3 * t + 1 ≤ hosts_with guards → quorum_of (hosts_with guards) t ≤ hosts_with makers → t + 1 ≤ honest_among makers liars

-- the honest ones of at least 3t + 1 guards are a quorum
abbrev pub HonestAreAQuorum : Type 0
HonestAreAQuorum = (t : ℕ) (guards liars : ℕ → Bool) → liars_among guards liars ≤ t → 3 * t + 1 ≤ hosts_with guards
    → quorum_of (hosts_with guards) t ≤ honest_among guards liars

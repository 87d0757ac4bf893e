-- The faults of guards, and which is the first: hosts rising, then links by their lower and then
-- their higher host.
use Rattle.std.specs.Prelude.{◌≡◌, ℕ, ◌+◌, ◌*◌, ◌<◌, ◌≤◌, ◌⊎◌, Bool, ◌&&◌, not, nat_lt, max, if◌then◌else◌, Option, Some, None}
use Rattle.nys_hosts.specs.Counts.{hosts_with}
use Rattle.nys_hosts.specs.Quorums.{liars_among}
use Rattle.nys_guards.specs.Good.{shared_guards}
use Rattle.nys_guards.specs.declared.fault.GuardFault.{GuardFault}
use Rattle.nys_guards.specs.declared.fault.GuardFault.TheVariants.{NotOwn, TooFew, CreditTooSmall, ShareTooFew}
use Rattle.nys_guards.specs.declared.fault.TooMany.{TooMany}

-- what is wrong at a host: the first of its three faults
abbrev pub fault_of_host : (ℕ → ℕ → Bool) → (ℕ → ℕ) → ℕ → (ℕ → ℕ → Bool) → ℕ → Option GuardFault
fault_of_host linked t credit guards h =
    if not (guards h h) then Some (NotOwn h)
    else if nat_lt (hosts_with (guards h)) (3 * t h + 1)
    then Some (TooFew h (hosts_with (guards h)) (3 * t h + 1))
    else if nat_lt credit (hosts_with (linked h))
    then Some (CreditTooSmall h credit (hosts_with (linked h)))
    else None

-- what is wrong between two hosts, if they are linked
abbrev pub fault_of_link : (ℕ → ℕ → Bool) → (ℕ → ℕ) → (ℕ → ℕ → Bool) → ℕ → ℕ → Option GuardFault
fault_of_link linked t guards p h =
    if linked p h && nat_lt (shared_guards guards p h) (2 * max (t p) (t h) + 1)
    then Some (ShareTooFew p h (shared_guards guards p h) (2 * max (t p) (t h) + 1)) else None

-- the fault is a host's, and no lower host has one
pub record IsFirstOfHosts (hosts : ℕ) (linked : ℕ → ℕ → Bool) (t : ℕ → ℕ) (credit : ℕ)
    (guards : ℕ → ℕ → Bool) (fault : GuardFault) : Type 0 where
  -- the host at fault
  pub host : ℕ
  pub within : host < hosts
  pub found : fault_of_host linked t credit guards host ≡ Some fault
  pub first : (h : ℕ) → h < host → fault_of_host linked t credit guards h ≡ None

-- the fault is that of a link from p to a higher host, and no link to one between has one
pub record IsFirstOfLinksFrom (hosts : ℕ) (linked : ℕ → ℕ → Bool) (t : ℕ → ℕ) (guards : ℕ → ℕ → Bool)
    (p : ℕ) (fault : GuardFault) : Type 0 where
  -- the higher host of the link at fault
  pub higher : ℕ
  pub above : p < higher
  pub within : higher < hosts
  pub found : fault_of_link linked t guards p higher ≡ Some fault
  pub first : (h : ℕ) → p < h → h < higher → fault_of_link linked t guards p h ≡ None

-- the fault is a link's, and no link before it has one
pub record IsFirstOfLinks (hosts : ℕ) (linked : ℕ → ℕ → Bool) (t : ℕ → ℕ) (guards : ℕ → ℕ → Bool)
    (fault : GuardFault) : Type 0 where
  -- the lower host of the link at fault
  pub lower : ℕ
  -- the first of the links from that host
  pub here : IsFirstOfLinksFrom hosts linked t guards lower fault
  -- no link from a lower host has a fault
  pub first : (p h : ℕ) → p < lower → p < h → h < hosts → fault_of_link linked t guards p h ≡ None

-- the fault is the first: a host's, or a link's where no host has one
abbrev pub IsFirstFault : ℕ → (ℕ → ℕ → Bool) → (ℕ → ℕ) → ℕ → (ℕ → ℕ → Bool) → GuardFault → Type 0
IsFirstFault hosts linked t credit guards fault =
    IsFirstOfHosts hosts linked t credit guards fault
    ⊎ (((h : ℕ) → h < hosts → fault_of_host linked t credit guards h ≡ None)
    × IsFirstOfLinks hosts linked t guards fault)

-- the lowest host with more liars among its guards than its threshold, and how many they are
pub record IsFirstTooMany (hosts : ℕ) (t : ℕ → ℕ) (guards : ℕ → ℕ → Bool) (liars : ℕ → Bool)
    (fault : TooMany) : Type 0 where
  pub within : fault.0 < hosts
  pub count : fault.1 ≡ liars_among (guards fault.0) liars
  pub many : t fault.0 < fault.1
  pub first : (h : ℕ) → h < fault.0 → liars_among (guards h) liars ≤ t h

-- Where the planner has guards to offer, and why it has none.
use Rattle.std.specs.Prelude.{◌≡◌, ℕ, ◌+◌, ◌*◌, ◌<◌, ◌≤◌, Bool}
use Rattle.nys_hosts.specs.Counts.{hosts_with}
use Rattle.nys_plan.specs.Greatest.{IsGreatest}
use Rattle.nys_plan.specs.declared.fault.PlanFault.{PlanFault}
use Rattle.nys_plan.specs.declared.fault.PlanFault.TheVariants.{TooFewHosts, CreditTooSmall}

-- none of the first n hosts has more neighbours than credit
abbrev pub AreFew : ℕ → (ℕ → ℕ → Bool) → ℕ → Type 0
AreFew n linked credit = (h : ℕ) → h < n → hosts_with (linked h) ≤ credit

-- there are as many hosts as each of them needs guards
abbrev pub AreEnough : ℕ → (ℕ → ℕ) → Type 0
AreEnough hosts t = (h : ℕ) → h < hosts → 3 * t h + 1 ≤ hosts

-- there are fewer hosts than the greatest threshold needs, which are so many
pub record IsTooFew (hosts : ℕ) (t : ℕ → ℕ) (need : ℕ) : Type 0 where
  -- the greatest threshold of all hosts
  pub greatest : ℕ
  pub most : IsGreatest t (λ h. h < hosts) greatest
  pub needs : need ≡ 3 * greatest + 1
  pub few : hosts < need

-- guards can be planned: there are enough hosts, and none has more neighbours than credit
pub record IsPlannable (hosts : ℕ) (linked : ℕ → ℕ → Bool) (t : ℕ → ℕ) (credit : ℕ) : Type 0 where
  pub enough : AreEnough hosts t
  pub few : AreFew hosts linked credit

-- the fault is one, and the first: too few hosts, else the lowest host with more neighbours than
-- credit
abbrev pub IsPlanFault : ℕ → (ℕ → ℕ → Bool) → (ℕ → ℕ) → ℕ → PlanFault → Type 0
IsPlanFault hosts linked t credit (TooFewHosts n need) =
    (n ≡ hosts) × IsTooFew hosts t need
IsPlanFault hosts linked t credit (CreditTooSmall h limit degree) =
    AreEnough hosts t × (h < hosts) × (limit ≡ credit) × (degree ≡ hosts_with (linked h))
    × (credit < degree) × AreFew h linked credit

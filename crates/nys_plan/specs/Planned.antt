-- The planner's rule: which guards a host is given.
use Rattle.std.specs.Prelude.{◌≡◌, ℕ, ◌+◌, ◌*◌, ◌≤◌, ◌↔◌, Bool, true, false, ◌==◌, ◌||◌, not, List, ◌++◌, filter, take}
use Rattle.std.specs.List.{range_with_len}
use Rattle.nys_hosts.specs.Makers.{is_listed}
use Rattle.nys_plan.specs.Greatest.{IsGreatest}
use Rattle.nys_plan.specs.Walks.{IsReached}

-- the first n hosts, those that pass, rising
unfoldable pub hosts_passing : (ℕ → Bool) → ℕ → List ℕ
hosts_passing p n = filter p (range_with_len 0 n)

-- the order in which a host takes guards: its component rising, then all other hosts rising
abbrev pub order_of : ℕ → (ℕ → Bool) → List ℕ
order_of hosts component =
    hosts_passing component hosts ++ hosts_passing (λ g. not (component g)) hosts

-- the chosen hosts are the first of a list, as many as are needed
pub record IsFirst (need : ℕ) (list : List ℕ) (chosen : ℕ → Bool) : Type 0 where
  pub same : (g : ℕ) → chosen g ≡ is_listed (take need list) g

-- the guards of host h: the first in the order of its component, as many as the greatest threshold there
-- needs, and h
pub record IsPlanned (hosts : ℕ) (linked : ℕ → ℕ → Bool) (t : ℕ → ℕ) (h : ℕ)
    (guards : ℕ → Bool) : Type 0 where
  -- h's connected component
  pub component : ℕ → Bool
  pub reached : (g : ℕ) → (component g ≡ true) ↔ IsReached linked h g
  -- the greatest threshold of the component
  pub greatest : ℕ
  pub most : IsGreatest t (IsReached linked h) greatest
  -- the first of the order, and h
  pub chosen : (g : ℕ) → guards g
      ≡ (is_listed (take (3 * greatest + 1) (order_of hosts component)) g || (h == g))

-- only hosts below n have guards
abbrev pub AreOfHostsBelow : ℕ → (ℕ → ℕ → Bool) → Type 0
AreOfHostsBelow n guards = (h g : ℕ) → n ≤ h → guards h g ≡ false

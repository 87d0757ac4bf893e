-- The tree of shortest walks to a root: each host's parent.
use Rattle.std.specs.Prelude.{◌≡◌, ℕ, zero, suc, ◌+◌, ◌≤◌, ◌⊎◌, ◌==◌, ◌&&◌, ◌||◌, Bool, true, if◌then◌else◌, Option, Some, None, is_some}
use Rattle.nys_route.specs.Walks.{HasNoWalk, IsLeast}

-- p is the lowest neighbour of h whose distance to the root is one less than that of h
pub record IsParent (linked : ℕ → ℕ → Bool) (root h p : ℕ) : Type 0 where
  pub links : ℕ
  pub own : IsLeast linked h root (links + 1)
  pub near : IsLeast linked p root links
  pub is_linked : linked h p ≡ true
  pub lowest : (q : ℕ) → linked h q ≡ true → IsLeast linked q root links → p ≤ q

-- the parent of h, or none where h is the root or has no walk to it
abbrev pub IsParentOf : (ℕ → ℕ → Bool) → ℕ → ℕ → Option ℕ → Type 0
IsParentOf linked root h (Some p) = IsParent linked root h p
IsParentOf linked root h None = (h ≡ root) ⊎ HasNoWalk linked h root

-- the first of two, where it is there
abbrev pub or_else : Option ℕ → Option ℕ → Option ℕ
or_else None second = second
or_else (Some first) second = Some first

-- the lowest number below a bound that passes a test
abbrev pub lowest : (ℕ → Bool) → ℕ → Option ℕ
lowest test zero = None
lowest test (suc n) = or_else (lowest test n) (if test n then Some n else None)

-- some walk of at most n links leads from h to the root
unfoldable pub reaches : ℕ → (ℕ → ℕ → Bool) → ℕ → ℕ → ℕ → Bool
reaches hosts linked root zero h = h == root
reaches hosts linked root (suc n) h =
    reaches hosts linked root n h || is_some (lowest (λ p. linked h p && reaches hosts linked root n p) hosts)

-- the lowest neighbour of h from which a walk of at most n links leads to the root
abbrev pub nearest : ℕ → (ℕ → ℕ → Bool) → ℕ → ℕ → ℕ → Option ℕ
nearest hosts linked root n h = lowest (λ p. linked h p && reaches hosts linked root n p) hosts

-- the parent of h, where some walk of at most n links leads from h to the root
unfoldable pub parent_within : ℕ → (ℕ → ℕ → Bool) → ℕ → ℕ → ℕ → Option ℕ
parent_within hosts linked root zero h = None
parent_within hosts linked root (suc n) h =
    if reaches hosts linked root n h then parent_within hosts linked root n h else nearest hosts linked root n h

-- the parent of h: a walk to the root need have no more links than there are hosts
unfoldable pub parent_of : ℕ → (ℕ → ℕ → Bool) → ℕ → ℕ → Option ℕ
parent_of hosts linked root h = parent_within hosts linked root hosts h

-- Walks over links, and distances by them.
use Rattle.std.specs.Prelude.{◌≡◌, ℕ, ◌≤◌, Bool, true, List, [], ◌∷◌, length, Option, Some, None}

-- the hosts are those that a walk from a to b comes to after a, each a neighbour of the one before it; the
-- walk has a link for each of them
abbrev pub IsWalk : (ℕ → ℕ → Bool) → ℕ → ℕ → List ℕ → Type 0
IsWalk linked a b [] = a ≡ b
IsWalk linked a b (next ∷ rest) = (linked a next ≡ true) × IsWalk linked next b rest

-- some walk from a to b has so many links
pub record HasWalk (linked : ℕ → ℕ → Bool) (a b links : ℕ) : Type 0 where
  pub walk : List ℕ
  pub is_walk : IsWalk linked a b walk
  pub links_are : length walk ≡ links

-- some walk from a to b has so many links, and none has fewer
pub record IsLeast (linked : ℕ → ℕ → Bool) (a b links : ℕ) : Type 0 where
  pub some : HasWalk linked a b links
  pub least : (walk : List ℕ) → IsWalk linked a b walk → links ≤ length walk

-- no walk leads from a to b
abbrev pub HasNoWalk : (ℕ → ℕ → Bool) → ℕ → ℕ → Type 0
HasNoWalk linked a b = (walk : List ℕ) → IsWalk linked a b walk → ⊥

-- the distance from a to b: the least number of links of a walk, or none where there is no walk
abbrev pub IsDistance : (ℕ → ℕ → Bool) → ℕ → ℕ → Option ℕ → Type 0
IsDistance linked a b (Some links) = IsLeast linked a b links
IsDistance linked a b None = HasNoWalk linked a b
